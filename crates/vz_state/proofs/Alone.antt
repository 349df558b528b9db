-- One client among those that are numbered in turn.
use Rattle.std.proofs.Common.{◌≡◌, ℕ, zero, suc, ◌+◌, ◌-◌, ◌<◌, ◌≤◌, ◌==◌, Bool, true, false, Option, Some, None, List, [], ◌∷◌, length, get_or, set, find, refl, sym, ap, ◌∙◌, cond, arith}
use Rattle.std.proofs.lemmas.Bool.Decides.{nat_tests}
use Rattle.vz_rules.specs.World.{Client, change_client}
use Rattle.vz_state.specs.Small.{AreNumbered}

-- those after the first
later : (m : ℕ) (x : Client) (xs : List Client) → AreNumbered m (x ∷ xs) → AreNumbered (m + 1) xs
later m x xs h n y e = let a : y.number ≡ suc n + m = h (suc n) y e in omega arith

-- a number that comes before all of them is nobody's
others_stay : (f : Client → Client) (c m : ℕ) (xs : List Client) → AreNumbered m xs → c < m → change_client f c xs ≡ xs
others_stay f c m [] h l = refl
others_stay f c m (x ∷ xs) h l =
    let own : x.number ≡ 0 + m = h 0 x refl in
    let other : (x.number == c) ≡ false = grind (arith, nat_tests) in
    ap (λ t. cond t (f x) x ∷ change_client f c xs) other ∙ ap (λ ys. x ∷ ys) (others_stay f c (m + 1) xs (later m x xs h) (omega arith))

-- the client of a number is at its place
changed_at : (f : Client → Client) (c m k : ℕ) (xs : List Client) (d y : Client) → AreNumbered m xs → c ≡ k + m → k < length xs → y ≡ f (get_or xs k d) → set xs k y ≡ change_client f c xs
changed_at f c m k [] d y h e l is = absurd (omega arith)
changed_at f c m zero (x ∷ xs) d y h e l is =
    let own : x.number ≡ 0 + m = h 0 x refl in
    let same : (x.number == c) ≡ true = grind (arith, nat_tests) in
    ap (λ z. z ∷ xs) is ∙ (ap (λ ys. f x ∷ ys) (sym (others_stay f c (m + 1) xs (later m x xs h) (omega arith))) ∙ ap (λ t. cond t (f x) x ∷ change_client f c xs) (sym same))
changed_at f c m (suc k) (x ∷ xs) d y h e l is =
    let own : x.number ≡ 0 + m = h 0 x refl in
    let other : (x.number == c) ≡ false = grind (arith, nat_tests) in
    ap (λ ys. x ∷ ys) (changed_at f c (m + 1) k xs d y (later m x xs h) (omega arith) (omega arith) is) ∙ ap (λ t. cond t (f x) x ∷ change_client f c xs) (sym other)

-- who is found has one of the numbers
found_from : (c m : ℕ) (xs : List Client) (x : Client) → AreNumbered m xs → find (λ (y : Client). y.number == c) xs ≡ Some x → (m ≤ c) × (c < m + length xs)
found_from c m [] x h e = absurd (cc)
found_from c m (y ∷ ys) x h e = by (λ r. found_from c (m + 1) ys x (later m y ys h) r) (h 0 y refl) (y.number == c) refl e
  where
    by : (find (λ (z : Client). z.number == c) ys ≡ Some x → (m + 1 ≤ c) × (c < m + 1 + length ys)) → y.number ≡ 0 + m → (t : Bool) → (y.number == c) ≡ t
        → cond t (Some y) (find (λ (z : Client). z.number == c) ys) ≡ Some x → (m ≤ c) × (c < m + length (y ∷ ys))
    by rest own true t e = let same : y.number ≡ c = grind (arith, nat_tests) in (omega arith, omega arith)
    by rest own false t e = let a = (rest e).0 in let b = (rest e).1 in (omega arith, omega arith)

-- where the client of a number is found, its place is there
pub found_within : (c k : ℕ) (xs : List Client) (x : Client) → k ≡ c - 1 → AreNumbered 1 xs → find (λ (y : Client). y.number == c) xs ≡ Some x → (c ≡ k + 1) × (k < length xs)
found_within c k xs x is h e = let r = found_from c 1 xs x h e in let a = r.0 in let b = r.1 in (omega arith, omega arith)

-- what is changed at its place is changed alone
pub changed_alone : (f : Client → Client) (c k : ℕ) (xs : List Client) (x d y : Client) → k ≡ c - 1 → AreNumbered 1 xs → find (λ (z : Client). z.number == c) xs ≡ Some x → y ≡ f (get_or xs k d) → set xs k y ≡ change_client f c xs
changed_alone f c k xs x d y is h e becomes = let r = found_within c k xs x is h e in changed_at f c 1 k xs d y h r.0 r.1 becomes
