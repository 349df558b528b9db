use Rattle.std.proofs.Common.{◌<◌, ◌+◌, List, subst, sym}
use Rattle.std.specs.List.{All}
use Rattle.vz_rules.specs.declared.entry.Entry.{Entry}
use Rattle.vz_base.specs.declared.limits.TheConstants.{MOST_FILES}
use Rattle.vz_player.specs.Played.{actor_in, HasCounted}
use Rattle.vz_player.proofs.Counting.{all_within}
use Rattle.vz_player.proofs.Playing.{resumed_is}
use Rattle.vz_player.specs.declared.actors.TheConstants.{MOST_ACTORS}
use Rattle.vz_player.proofs.player.Player.resume.Goals as goal

pub after-actors-requires : goal.after-actors-requires
after-actors-requires g c =
    let m = g.M.Machine.state c.args.machine in
    subst (All (λ (e : Entry). actor_in e.event < MOST_FILES + 1)) (sym c.as_slice.ensures) (all_within m.plan c.args.history.list c.requires.files c.requires.legal)

pub invariant_of-result : goal.invariant_of-result
invariant_of-result g c =
    let r = c.requires in (
      resumed_is (g.M.Machine.state c.args.machine) c.args.display.shown c.args.history.list c.args.buffers r.behind r.legal r.files r.sides r.from r.display,
      subst (λ (l : List Entry). HasCounted MOST_ACTORS l c.after-actors.result) c.as_slice.ensures c.after-actors.ensures,
    )
