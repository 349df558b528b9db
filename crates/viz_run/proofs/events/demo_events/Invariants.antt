use Rattle.std.proofs.Common.{◌≡◌, ◌++◌}
use Rattle.viz_run.specs.Demo.{four, rounds}
use Rattle.viz_run.proofs.events.demo_events.Given as goal

abbrev pub invariant-loop : goal.invariant-loop
invariant-loop l = l.events.items ≡ four 1 ++ rounds l.counter
