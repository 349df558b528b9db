use Rattle.std.proofs.Common.{◌≡◌, take}
use Rattle.vz_frame.specs.Checking.{in_passes}
use Rattle.vz_frame.proofs.rules.search_passes.Given as goal

-- what is found in the passes so far
abbrev pub invariant-loop-place : goal.invariant-loop-place
invariant-loop-place l = l.found ≡ in_passes l.listed (take l.place l.passes)
