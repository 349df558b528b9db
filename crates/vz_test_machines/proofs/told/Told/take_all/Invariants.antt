use Rattle.std.proofs.Common.{◌≡◌}
use Rattle.vz_test_machines.proofs.told.Told.take_all.Given as goal

-- the machine has the plan that it had
abbrev pub invariant-loop-event : goal.invariant-loop-event
invariant-loop-event g l = (g.M.Machine.state l.machine).plan ≡ (g.M.Machine.state l.fn.machine).plan
