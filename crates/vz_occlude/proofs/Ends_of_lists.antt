-- The ends of lists.
use Rattle.std.proofs.Common.{◌≡◌, ℕ, ◌+◌, ◌-◌, ◌≤◌, ◌<◌, List, [], ◌∷◌, ◌++◌, take, drop, length, reverse, ap, sym, ◌∙◌, arith, append_assoc, length-append}
use Rattle.std.specs.Prelude.{Some, slice_get, slice_set, slice_index_or}
use Rattle.std.proofs.lemmas.List.{reverse-append, reverse-reverse, take_at, drop_at, take-append-drop, length-drop, length-set, drop-set, drop-set-lt, take-set, take-set-le}
use Rattle.std.proofs.lemmas.Option.{get_or_from_slice_get}

module _ {A : Type 0} where
  heads : (x y : A) (xs ys : List A) → x ∷ xs ≡ y ∷ ys → x ≡ y
  heads x y xs ys e = cc

  tails : (x y : A) (xs ys : List A) → x ∷ xs ≡ y ∷ ys → xs ≡ ys
  tails x y xs ys e = cc

  -- of lists with one at the end the ones and the rests are the same
  pub same_ends : (x y : A) (xs ys : List A) → xs ++ x ∷ [] ≡ ys ++ y ∷ [] → (x ≡ y) × (xs ≡ ys)
  same_ends x y xs ys e =
      let back : x ∷ reverse xs ≡ y ∷ reverse ys = sym (reverse-append xs (x ∷ [])) ∙ (ap reverse e ∙ reverse-append ys (y ∷ [])) in (
        heads x y (reverse xs) (reverse ys) back,
        sym (reverse-reverse xs) ∙ (ap reverse (tails x y (reverse xs) (reverse ys) back) ∙ reverse-reverse ys),
      )

  -- how many are behind a place
  pub count_behind : (xs back : List A) (k : ℕ) → drop k xs ≡ back → length xs - k ≡ length back
  count_behind xs back k e = sym (length-drop k xs) ∙ ap length e

  -- the last ones of a list that ends with them
  pub last_ones : (xs front back : List A) (k : ℕ) → drop k xs ≡ front ++ back → drop (length xs - length back) xs ≡ back
  last_ones xs front back k e =
      let parts : xs ≡ (take k xs ++ front) ++ back = sym (take-append-drop k xs) ∙ (ap (λ ys. take k xs ++ ys) e ∙ sym (append_assoc (take k xs) front back)) in
      let long : length xs ≡ length (take k xs ++ front) + length back = ap length parts ∙ length-append (take k xs ++ front) back in
      ap (drop (length xs - length back)) parts ∙ drop_at (take k xs ++ front) back (length xs - length back) (omega (arith, long))

  -- one and a later place swapped
  module _ (xs ys : List A) (i k : ℕ) (x : A) (at : slice_get xs i ≡ Some x) (low : i ≤ k) (high : k < length xs)
      (is : ys ≡ slice_set (slice_set xs i (slice_index_or xs k x)) k (slice_index_or xs i x)) where
    abbrev half : List A
    half = slice_set xs i (slice_index_or xs k x)

    pub swapped_behind : drop k ys ≡ x ∷ drop (k + 1) xs
    swapped_behind =
        let first = length-set xs i (slice_index_or xs k x) in
        let inside : k < length half = omega (arith, first, high) in
        ap (drop k) is ∙ (drop-set half k (slice_index_or xs i x) inside
        ∙ (λ j. get_or_from_slice_get xs i x x at j ∷ drop-set-lt (k + 1) xs i (slice_index_or xs k x) (omega (arith, low)) j))

  module _ (xs ys : List A) (i k : ℕ) (y z : A) (low : i ≤ k) (is : ys ≡ slice_set (slice_set xs i y) k z) where
    pub swapped_ahead : take i ys ≡ take i xs
    swapped_ahead = ap (take i) is ∙ (take-set-le i (slice_set xs i y) k z low ∙ take-set xs i y)

    pub swapped_length : length ys ≡ length xs
    swapped_length = ap length is ∙ (length-set (slice_set xs i y) k z ∙ length-set xs i y)

  -- the first ones rotated to the end, and cut off
  pub rotated_cut : (xs : List A) (n : ℕ) → n ≤ length xs → take (length xs - n) (drop n xs ++ take n xs) ≡ drop n xs
  rotated_cut xs n low = take_at (drop n xs) (take n xs) (length xs - n) (length-drop n xs)
