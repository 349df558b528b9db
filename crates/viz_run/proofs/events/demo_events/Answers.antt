use Rattle.std.proofs.Common.{rules}
use Rattle.viz_run.specs.Demo.{rounds}
use Rattle.viz_run.proofs.Rounds.{events_more}
use Rattle.viz_run.proofs.events.demo_events.Goals as goal

pub loop-init : goal.loop-init
unfolding rounds
loop-init c = search rules

pub loop-preserved : goal.loop-preserved
loop-preserved c = events_more c.loop.counter _ _ c.loop.invariant c.in_ok-push_round.ensures
