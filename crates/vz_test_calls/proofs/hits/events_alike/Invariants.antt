use Rattle.std.proofs.Common.{◌≡◌}
use Rattle.vz_test_calls.proofs.hits.events_alike.Given as goal

-- both machines have the plan
abbrev pub invariant-loop-event : goal.invariant-loop-event
invariant-loop-event l = (l.plain.plan ≡ l.plan) × (l.fast.plan ≡ l.plan)
