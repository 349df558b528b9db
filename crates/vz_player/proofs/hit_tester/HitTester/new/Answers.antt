use Rattle.vz_player.specs.declared.actors.TheConstants.{MOST_ACTORS}
use Rattle.vz_player.proofs.{Counting.none_counted, Testing.opening_tested}
use Rattle.vz_player.proofs.hit_tester.HitTester.new.Goals as goal

pub invariant_of-result : goal.invariant_of-result
invariant_of-result g c =
    let r = c.requires in (
      opening_tested (g.M.Machine.state c.args.machine) c.new.result.list c.args.point r.opening r.files r.on c.new.ensures,
      none_counted MOST_ACTORS c.new.result.list c.new-2.result c.new-2.ensures c.new.ensures,
    )
