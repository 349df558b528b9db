-- What is found in a list of pairs, and what a new pair does to it.
use Rattle.std.proofs.Common.{◌≡◌, ℕ, zero, suc, ◌<◌, ◌≢◌, [], ◌∷◌, length, get_or, Some, None, refl, arith}
use Rattle.std.specs.List.{insert}
use Rattle.std.proofs.lemmas.Bool.Decides.{nat_tests}
use Rattle.vz_frame.specs.Pairs.{Pairs, get, id_at, IsAt, GetsAfterSet}

-- no pair before place i has the id
abbrev pub NoIdBefore : Pairs → ℕ → ℕ → Type 0
NoIdBefore l id i = (j : ℕ) → j < i → id_at l j ≢ id

-- no pair of the tail has the id either
no_id_before_tail : (x : ℕ × ℕ) (l : Pairs) (id i : ℕ) → NoIdBefore (x ∷ l) id (suc i) → NoIdBefore l id i
no_id_before_tail x l id i none j lt = none (suc j) (omega arith)

-- in the tail, a pair is one place lower
is_at_tail : (x : ℕ × ℕ) (l : Pairs) (id i : ℕ) → IsAt (x ∷ l) id (suc i) → IsAt l id i
is_at_tail x l id i at = record { in_range = omega (arith, at.in_range); has_id = at.has_id }

-- an id that no pair has is not found
pub get_absent : (l : Pairs) (id : ℕ) → NoIdBefore l id (length l) → get l id ≡ None
get_absent [] id none = refl
get_absent (x ∷ l) id none = grind (arith, nat_tests, none 0 (omega arith), get_absent l id (no_id_before_tail x l id _ none))

-- the first pair that has the id gives the place
pub get_present : (l : Pairs) (id i : ℕ) → IsAt l id i → NoIdBefore l id i → get l id ≡ Some (get_or l i (0, 0)).1
get_present [] id i at none = absurd (omega (arith, at.in_range))
get_present (x ∷ l) id zero at none = grind (arith, nat_tests, at.has_id)
get_present (x ∷ l) id (suc i) at none = grind (arith, nat_tests, none 0 (omega arith), get_present l id i (is_at_tail x l id i at) (no_id_before_tail x l id i none))

-- a new pair before any pair that has the id changes what is found at that id alone
pub get_insert : (l : Pairs) (id place i : ℕ) → NoIdBefore l id i → GetsAfterSet l (insert l i (id, place)) id place
get_insert l id place zero none q = refl
get_insert [] id place (suc i) none q = refl
get_insert (x ∷ l) id place (suc i) none q = grind (arith, nat_tests, none 0 (omega arith), get_insert l id place i (no_id_before_tail x l id i none) q)
