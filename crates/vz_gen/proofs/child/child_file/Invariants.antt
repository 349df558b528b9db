use Rattle.std.proofs.Common.{◌≡◌, ◌-◌, ◌+◌, ◌++◌}
use Rattle.vz_gen.specs.Make.{rounds_from}
use Rattle.vz_gen.proofs.child.child_file.Given as goal

-- the rounds so far and those to come are all rounds
abbrev pub invariant-loop-r : goal.invariant-loop-r
invariant-loop-r l = l.messages.items ++ rounds_from l.k (l.n - l.r) (l.r + 1) ≡ rounds_from l.k l.n 1
