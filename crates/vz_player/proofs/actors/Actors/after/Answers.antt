use Rattle.std.proofs.Common.{rules, ◌<◌, length, ap, refl}
use Rattle.vz_player.specs.declared.actors.TheConstants.{MOST_ACTORS}
use Rattle.vz_player.proofs.Counting.{next_counted}
use Rattle.vz_player.proofs.actors.Actors.after.Goals as goal

pub loop-entry-preserved : goal.loop-entry-preserved
loop-entry-preserved c =
    let here : c.loop-entry.entry-index < length c.args.history.now = search rules in
    next_counted MOST_ACTORS c.args.history.now c.loop-entry.entry-index c.entry-item.result c.entry-item.result.event _ _ c.actor_of.result _ here (ap (λ e. e.event) c.entry-item.is)
    c.actor_of.ensures c.requires c.loop-entry.invariant refl c.count.ensures
