use Rattle.std.proofs.Common.{◌∙◌}
use Rattle.vz_player.specs.declared.actors.TheConstants.{MOST_ACTORS}
use Rattle.vz_player.proofs.{Counting.none_counted, Playing.opening_is}
use Rattle.vz_player.proofs.player.Player.new.Goals as goal

pub invariant_of-result : goal.invariant_of-result
invariant_of-result g c =
    let r = c.requires in (
      opening_is (g.M.Machine.state c.args.machine) c.new.result.shown c.reserve.new.self.list c.args.size c.args.buffers r.opening r.files r.size r.sides r.from c.new.ensures.shown (c.reserve.ensures.list ∙ c.new-history.ensures),
      none_counted MOST_ACTORS c.reserve.new.self.list c.new-2.result c.new-2.ensures (c.reserve.ensures.list ∙ c.new-history.ensures),
    )
