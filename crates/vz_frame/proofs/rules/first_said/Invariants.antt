use Rattle.std.proofs.Common.{◌≡◌, drop}
use Rattle.vz_frame.specs.Checking.{first_said}
use Rattle.vz_frame.proofs.rules.first_said.Given as goal

-- the answer is that of what is left
abbrev pub invariant-loop-is_broken : goal.invariant-loop-is_broken
invariant-loop-is_broken l = first_said l.table ≡ first_said (drop l.is_broken-index l.table)
