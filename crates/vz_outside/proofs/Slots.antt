-- Laws on the elements of a list by their places.
use Rattle.std.proofs.Common.{◌≡◌, ◌≢◌, ℕ, zero, suc, ◌<◌, ◌⊎◌, inl, inr, Some, List, [], ◌∷◌, ◌++◌, length, set, slice_get, refl, sym, ap, arith}
use Rattle.std.proofs.lemmas.Option.{none-some, same_Some}

-- an element stays where it is when others come behind
pub get-append : {X : Type 0} (xs ys : List X) (k : ℕ) (x : X) → slice_get xs k ≡ Some x → slice_get (xs ++ ys) k ≡ Some x
get-append [] ys k x at = absurd (none-some x at)
get-append (y ∷ xs) ys zero x at = at
get-append (y ∷ xs) ys (suc k) x at = get-append xs ys k x at

-- the element behind all others
pub get_end : {X : Type 0} (xs : List X) (y : X) → slice_get (xs ++ y ∷ []) (length xs) ≡ Some y
get_end [] y = refl
get_end (x ∷ xs) y = get_end xs y

-- with one more behind, an element is one of those before, or that one
pub get_push : {X : Type 0} (xs : List X) (y : X) (k : ℕ) (x : X) → slice_get (xs ++ y ∷ []) k ≡ Some x → (slice_get xs k ≡ Some x) ⊎ (x ≡ y)
get_push [] y zero x at = inr (sym (same_Some y x at))
get_push [] y (suc k) x at = absurd (none-some x at)
get_push (z ∷ xs) y zero x at = inl at
get_push (z ∷ xs) y (suc k) x at = get_push xs y k x at

-- the element that was put there
pub get-set_same : {X : Type 0} (xs : List X) (k : ℕ) (y : X) → k < length xs → slice_get (set xs k y) k ≡ Some y
get-set_same [] k y low = absurd (omega arith)
get-set_same (x ∷ xs) zero y low = refl
get-set_same (x ∷ xs) (suc k) y low = get-set_same xs k y (omega arith)

-- the other elements stay
pub get-set_other : {X : Type 0} (xs : List X) (k : ℕ) (y : X) (j : ℕ) → j ≢ k → slice_get (set xs k y) j ≡ slice_get xs j
get-set_other [] k y j other = refl
get-set_other (x ∷ xs) zero y zero other = absurd (other refl)
get-set_other (x ∷ xs) zero y (suc j) other = refl
get-set_other (x ∷ xs) (suc k) y zero other = refl
get-set_other (x ∷ xs) (suc k) y (suc j) other = get-set_other xs k y j (λ same. other (ap (λ (n : ℕ). suc n) same))

-- with one of them replaced, an element is one of those before, or that one
pub get_set_cases : {X : Type 0} (xs : List X) (k : ℕ) (y : X) (j : ℕ) (x : X) → slice_get (set xs k y) j ≡ Some x → (slice_get xs j ≡ Some x) ⊎ (x ≡ y)
get_set_cases [] k y j x at = absurd (none-some x at)
get_set_cases (z ∷ xs) zero y zero x at = inr (sym (same_Some y x at))
get_set_cases (z ∷ xs) zero y (suc j) x at = inl at
get_set_cases (z ∷ xs) (suc k) y zero x at = inl at
get_set_cases (z ∷ xs) (suc k) y (suc j) x at = get_set_cases xs k y j x at
