use Rattle.std.proofs.Common.{◌≡◌, take}
use Rattle.vz_rules.specs.Step.{world}
use Rattle.vz_slow.proofs.replay.machine_after.Given as goal

-- the machine stands behind the first k entries
abbrev pub invariant-loop-k : goal.invariant-loop-k
invariant-loop-k l = l.machine ≡ record { plan = l.plan; world = world l.plan (take l.k l.h) }
