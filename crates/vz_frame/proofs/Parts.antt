-- Lists of which a part is replaced.
use Rattle.std.proofs.Common.{◌≡◌, ℕ, ◌+◌, ◌-◌, ◌≤◌, ◌<◌, Bool, true, false, ◌&&◌, if◌then◌else◌, List, ◌++◌, length, take, drop, get_or, refl, sym, ap, ◌∙◌, arith}
use Rattle.std.specs.Prelude.{nat_le, nat_lt}
use Rattle.std.proofs.lemmas.Bool.{ltb-true, ltb-false, leb-true}
use Rattle.std.proofs.lemmas.List.{get_or-take, get_or-drop, get_or_append_left, get_or-append_right, length-take-le, length-drop, length-append}
use borrow.Rule.Slice.PartMut.{put_mid, post_of}

and_both : (a b : Bool) → a ≡ true → b ≡ true → (a && b) ≡ true
and_both a b e f = ap (λ t. t && b) e ∙ f

module _ {A : Type 0} (d : A) where
  pub below_part : (a k : ℕ) (xs ys : List A) (i : ℕ) → a ≤ length xs → i < a → get_or (put_mid a k xs ys) i d ≡ get_or xs i d
  below_part a k xs ys i fits low =
      let long = length-take-le a xs fits in
      get_or_append_left (take a xs) (ys ++ post_of a k xs) d i (omega (arith, low, long)) ∙ get_or-take a xs i d low

  pub in_part : (a k : ℕ) (xs ys : List A) (i : ℕ) → a ≤ length xs → length ys ≡ k → a ≤ i → i < a + k → get_or (put_mid a k xs ys) i d ≡ get_or ys (i - a) d
  in_part a k xs ys i fits all least most =
      get_or-append_right (take a xs) (ys ++ post_of a k xs) a i d (length-take-le a xs fits) least
      ∙ get_or_append_left ys (post_of a k xs) d (i - a) (omega (arith, all, least, most))

  pub behind_part : (a k : ℕ) (xs ys : List A) (i : ℕ) → a ≤ length xs → length ys ≡ k → a + k ≤ i → get_or (put_mid a k xs ys) i d ≡ get_or xs i d
  behind_part a k xs ys i fits all least =
      let past : a ≤ i = omega (arith, least) in
      let past_part : k ≤ i - a = omega (arith, least) in
      let same : a + (k + (i - a - k)) ≡ i = omega (arith, least) in
      get_or-append_right (take a xs) (ys ++ post_of a k xs) a i d (length-take-le a xs fits) past
      ∙ (get_or-append_right ys (post_of a k xs) k (i - a) d all past_part
      ∙ (get_or-drop k (drop a xs) (i - a - k) d ∙ (get_or-drop a xs (k + (i - a - k)) d ∙ ap (λ n. get_or xs n d) same)))

  -- a list of which a part is replaced by what stands, place by place, at the places of a test
  pub replaced : (xs ys : List A) (from to : ℕ) (test : Bool) (v : A) (i : ℕ) → from ≤ to → to ≤ length xs → length ys ≡ to - from → test ≡ (nat_le from i && nat_lt i to)
      → (from ≤ i → i < to → get_or ys (i - from) d ≡ v) → get_or (put_mid from (to - from) xs ys) i d ≡ (if test then v else get_or xs i d)
  replaced xs ys from to test v i up fits all is same = by_tests (nat_le from i) (nat_lt i to) refl refl ∙ ap (λ t. if t then v else get_or xs i d) (sym is)
    where
      by_tests : (t u : Bool) → nat_le from i ≡ t → nat_lt i to ≡ u → get_or (put_mid from (to - from) xs ys) i d ≡ (if nat_le from i && nat_lt i to then v else get_or xs i d)
      by_tests true true e f =
          let least = leb-true from i e in
          let most = ltb-true i to f in
          let both = and_both (nat_le from i) (nat_lt i to) e f in
          in_part from (to - from) xs ys i (omega (arith, up, fits)) all least (omega (arith, least, most, up)) ∙ same least most
          ∙ ap (λ b. if b then v else get_or xs i d) (sym both)
      by_tests true false e f =
          let least = ltb-false i to f in
          behind_part from (to - from) xs ys i (omega (arith, up, fits)) all (omega (arith, least, up))
          ∙ ap (λ b. if b then v else get_or xs i d) (sym (ap (λ t. t && nat_lt i to) e ∙ f))
      by_tests false u e f =
          below_part from (to - from) xs ys i (omega (arith, up, fits)) (less from i e) ∙ ap (λ b. if b then v else get_or xs i d) (sym (ap (λ t. t && nat_lt i to) e))
        where
          less : (a b : ℕ) → nat_le a b ≡ false → b < a
          less a b e = grind (arith, e)

  pub part_of : (xs : List A) (from k i : ℕ) → from ≤ i → i < from + k → get_or (take k (drop from xs)) (i - from) d ≡ get_or xs i d
  part_of xs from k i least most =
      let same : from + (i - from) ≡ i = omega (arith, least) in
      let low : i - from < k = omega (arith, least, most) in
      get_or-take k (drop from xs) (i - from) d low ∙ (get_or-drop from xs (i - from) d ∙ ap (λ n. get_or xs n d) same)

  pub length_part : (xs : List A) (from k : ℕ) → from + k ≤ length xs → length (take k (drop from xs)) ≡ k
  length_part xs from k fits =
      let long = length-drop from xs in length-take-le k (drop from xs) (omega (arith, long, fits))

  -- a list with a part replaced is as long
  pub length_replaced : (xs ys : List A) (from k : ℕ) → from + k ≤ length xs → length ys ≡ k → length (put_mid from k xs ys) ≡ length xs
  length_replaced xs ys from k fits all =
      let whole : length (put_mid from k xs ys) ≡ length (take from xs) + length (ys ++ post_of from k xs) = length-append (take from xs) (ys ++ post_of from k xs) in
      let rest : length (ys ++ post_of from k xs) ≡ length ys + length (post_of from k xs) = length-append ys (post_of from k xs) in
      let behind : length (post_of from k xs) ≡ length (drop from xs) - k = length-drop k (drop from xs) in
      let dropped = length-drop from xs in
      let before = length-take-le from xs (omega (arith, fits)) in
      omega (arith, whole, rest, behind, dropped, before, all, fits)
