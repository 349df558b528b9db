use Rattle.std.proofs.Common.{◌≡◌, ◌≤◌, ◌==◌, ℕ, length, map, take}
use Rattle.vz_frame.specs.Frame.{has_repeat}
use Rattle.vz_frame.specs.Pairs.{get}
use Rattle.vz_frame.specs.Places.{first_place}
use Rattle.vz_frame.proofs.places.indexed.Given as goal

-- the map and the answer are those of the items so far
abbrev pub invariant-loop-place : goal.invariant-loop-place
invariant-loop-place g l =
    let so_far = take l.place (map g.T.HasId.id_of l.items) in
    ((n : ℕ) → get l.index n ≡ first_place n so_far) × (l.repeats ≡ has_repeat (λ a b. b == a) so_far) × (length l.index ≤ l.place)
