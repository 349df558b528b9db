-- The last element that a test holds of.
use Rattle.std.proofs.Common.{◌≡◌, Bool, true, false, cond, Option, Some, List, [], ◌∷◌, ◌++◌, reverse, filter, find, refl, sym, ap, ◌∙◌}
use Rattle.std.proofs.lemmas.List.{reverse-append, append-nil}
use Rattle.std.proofs.lemmas.List.Elements.{filter-append}
use Rattle.vz_frame.specs.Frame.{first_of}

find_first : {A : Type 0} (p : A → Bool) (xs : List A) → find p xs ≡ first_of (filter p xs)
find_first p [] = refl
find_first p (x ∷ xs) = find_step (p x) x (find p xs) (filter p xs) (find_first p xs)
  where
    find_step : {B : Type 0} (t : Bool) (y : B) (rest : Option B) (ys : List B) → rest ≡ first_of ys → cond t (Some y) rest ≡ first_of (cond t (y ∷ ys) ys)
    find_step true y rest ys e = refl
    find_step false y rest ys e = e

filter_reverse : {A : Type 0} (p : A → Bool) (xs : List A) → filter p (reverse xs) ≡ reverse (filter p xs)
filter_reverse p [] = refl
filter_reverse p (x ∷ xs) =
    ap (filter p) (reverse-append (x ∷ []) xs) ∙ (filter-append p (reverse xs) (x ∷ []) ∙ (ap (λ l. l ++ filter p (x ∷ [])) (filter_reverse p xs) ∙ step (p x)))
  where
    step : (t : Bool) → reverse (filter p xs) ++ cond t (x ∷ []) [] ≡ reverse (cond t (x ∷ filter p xs) (filter p xs))
    step true = sym (reverse-append (x ∷ []) (filter p xs))
    step false = append-nil (reverse (filter p xs))

-- the first that is found from the last on is the last of those that the test holds of
pub found_last : {A : Type 0} (p : A → Bool) (xs : List A) → find p (reverse xs) ≡ first_of (reverse (filter p xs))
found_last p xs = find_first p (reverse xs) ∙ ap first_of (filter_reverse p xs)
