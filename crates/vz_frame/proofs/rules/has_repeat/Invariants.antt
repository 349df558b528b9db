use Rattle.std.proofs.Common.{◌≡◌, drop}
use Rattle.vz_frame.specs.Frame.{has_repeat}
use Rattle.vz_ids.specs.Ids.{same_surface}
use Rattle.vz_frame.proofs.rules.has_repeat.Given as goal

-- the answer is that of what is left
abbrev pub invariant-loop-place : goal.invariant-loop-place
invariant-loop-place l = has_repeat same_surface l.surfaces ≡ has_repeat same_surface (drop l.place l.surfaces)
