use Rattle.std.proofs.Common.{◌≡◌, ◌==◌, map, take}
use Rattle.vz_frame.specs.Frame.{has_repeat}
use Rattle.vz_frame.proofs.places.scan_repeats.Given as goal

-- the answer of the items so far
abbrev pub invariant-loop-place : goal.invariant-loop-place
invariant-loop-place g l = l.repeats ≡ has_repeat (λ a b. b == a) (take l.place (map g.T.HasId.id_of l.items))
