use Rattle.std.proofs.Common.{take}
use Rattle.viz_run.specs.Taken.{HasTested}
use Rattle.viz_c.proofs.hit.take_all.Given as goal

-- the tester has taken the first events
abbrev pub invariant-loop-event : goal.invariant-loop-event
invariant-loop-event l = HasTested (take l.event-index l.events) l.fn.tester l.tester
