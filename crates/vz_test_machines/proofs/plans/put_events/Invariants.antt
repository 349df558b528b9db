use Rattle.std.proofs.Common.{All}
use Rattle.vz_rules.specs.Step.{NamesClient}
use Rattle.vz_test_machines.proofs.plans.put_events.Given as goal

-- the events so far are of the plan
abbrev pub invariant-loop-byte : goal.invariant-loop-byte
invariant-loop-byte l = All (NamesClient l.plan) l.all.items
