-- How far a walk along a row has come.
use Rattle.std.proofs.Common.{◌≡◌, ℕ, zero, suc, ◌+◌, ◌<◌, ◌≤◌, List, [], ◌∷◌, length, map, get_or, slice_set, refl, ap, sym, ◌∙◌, arith}
use Rattle.std.specs.Prelude.{take}
use Rattle.std.proofs.{lemmas.List.get_or_default, lemmas.Simd.length-chunk, lemmas.Bool.Decides.nat_tests}
use lib.Lanes.{zip2, chunk, put_chunk}
use Rattle.vz_pixels.specs.Colour.{Colour}
use Rattle.vz_kernel.specs.Rows.{mixed_upto, changed_upto}

module _ (f : Colour → Colour → Colour) where
  pub length_upto : (n : ℕ) (src dst : List Colour) → length dst ≡ length src → length (mixed_upto f n src dst) ≡ length src
  length_upto zero src dst e = e
  length_upto (suc n) [] dst e = e
  length_upto (suc n) (s ∷ src) [] e = absurd (omega arith)
  length_upto (suc n) (s ∷ src) (d ∷ dst) e = ap suc (length_upto n src dst (omega arith))

  pub length_before : (n : ℕ) (src dst : List Colour) → length (mixed_upto f n src dst) ≡ length src → length dst ≡ length src
  length_before zero src dst e = e
  length_before (suc n) [] dst e = e
  length_before (suc n) (s ∷ src) [] e = absurd (omega arith)
  length_before (suc n) (s ∷ src) (d ∷ dst) e = ap suc (length_before n src dst (omega arith))

  none_put : (dst : List Colour) → put_chunk 0 dst [] ≡ dst
  none_put [] = refl
  none_put (d ∷ dst) = refl

  start_put : (m : ℕ) (src dst : List Colour) → length dst ≡ length src → m ≤ length src → put_chunk 0 dst (zip2 f (take m src) (take m dst)) ≡ mixed_upto f m src dst
  start_put zero src dst e h = none_put dst
  start_put (suc m) [] dst e h = absurd (omega arith)
  start_put (suc m) (s ∷ src) [] e h = absurd (omega arith)
  start_put (suc m) (s ∷ src) (d ∷ dst) e h = ap (λ l. f s d ∷ l) (start_put m src dst (omega arith) (omega arith))

  -- m places more
  more_put : (n m j : ℕ) (src dst : List Colour) → j ≡ n + m → length dst ≡ length src → j ≤ length src
      → put_chunk n (mixed_upto f n src dst) (zip2 f (chunk n m src) (chunk n m (mixed_upto f n src dst))) ≡ mixed_upto f j src dst
  more_put zero m j src dst k e h = start_put m src dst e (omega arith) ∙ ap (λ i. mixed_upto f i src dst) (omega arith)
  more_put (suc n) m zero src dst k e h = absurd (omega arith)
  more_put (suc n) m (suc j) [] dst k e h = absurd (omega arith)
  more_put (suc n) m (suc j) (s ∷ src) [] k e h = absurd (omega arith)
  more_put (suc n) m (suc j) (s ∷ src) (d ∷ dst) k e h = ap (λ l. f s d ∷ l) (more_put n m j src dst (omega arith) (omega arith) (omega arith))

  -- m places more, of what was there before
  pub step_put : (n m j : ℕ) (src dst now next : List Colour) → j ≡ n + m → length dst ≡ length src → j ≤ length src → now ≡ mixed_upto f n src dst
      → next ≡ put_chunk n now (zip2 f (chunk n m src) (chunk n m now)) → next ≡ mixed_upto f j src dst
  step_put n m j src dst now next k e h is step = step ∙ ap (λ row. put_chunk n row (zip2 f (chunk n m src) (chunk n m row))) is ∙ more_put n m j src dst k e h

  -- one place more
  pub one_more : (n : ℕ) (src dst : List Colour) (t : Colour) → length dst ≡ length src → n < length src
      → slice_set (mixed_upto f n src dst) n (f (get_or src n t) (get_or (mixed_upto f n src dst) n t)) ≡ mixed_upto f (suc n) src dst
  one_more n [] dst t e h = absurd (omega arith)
  one_more n (s ∷ src) [] t e h = absurd (omega arith)
  one_more zero (s ∷ src) (d ∷ dst) t e h = refl
  one_more (suc n) (s ∷ src) (d ∷ dst) t e h = ap (λ l. f s d ∷ l) (one_more n src dst t (omega arith) (omega arith))

  -- all of them
  pub whole : (src dst : List Colour) → length dst ≡ length src → mixed_upto f (length src) src dst ≡ zip2 f src dst
  whole [] [] e = refl
  whole [] (d ∷ dst) e = absurd (omega arith)
  whole (s ∷ src) [] e = absurd (omega arith)
  whole (s ∷ src) (d ∷ dst) e = ap (λ l. f s d ∷ l) (whole src dst (omega arith))

  -- one place more, by what was read there
  pub one_mixed : (n m : ℕ) (src dst now : List Colour) (s d r t : Colour) → m ≡ n + 1 → length now ≡ length src → n < length src → now ≡ mixed_upto f n src dst
      → s ≡ get_or src n s → d ≡ get_or now n d → r ≡ f s d → slice_set now n r ≡ mixed_upto f m src dst
  one_mixed n m src dst now s d r t next long low is p q e =
      let top = p ∙ get_or_default src n s t low in
      let under = q ∙ get_or_default now n d t (omega arith) ∙ ap (λ l. get_or l n t) is in
      let before : length dst ≡ length src = length_before n src dst (ap length (sym is) ∙ long) in
      let step : suc n ≡ m = omega arith in
      (λ i. slice_set (is i) n ((e ∙ (λ j. f (top j) (under j))) i)) ∙ one_more n src dst t before low ∙ ap (λ k. mixed_upto f k src dst) step

-- a change of one row is a mix of it with another as long
same_map : (g : Colour → Colour) (xs ys : List Colour) → length xs ≡ length ys → zip2 (λ _ d. g d) xs ys ≡ map g ys
same_map g [] [] e = refl
same_map g [] (y ∷ ys) e = absurd (omega arith)
same_map g (x ∷ xs) [] e = absurd (omega arith)
same_map g (x ∷ xs) (y ∷ ys) e = ap (λ l. g y ∷ l) (same_map g xs ys (omega arith))

-- a row of which the first n places are changed, as a mix with itself
as_mix : (g : Colour → Colour) (n : ℕ) (row : List Colour) → changed_upto g n row ≡ mixed_upto (λ _ d. g d) n row row
as_mix g zero row = refl
as_mix g (suc n) [] = refl
as_mix g (suc n) (c ∷ row) = ap (λ l. g c ∷ l) (as_mix g n row)

pub length_changed : (g : Colour → Colour) (n : ℕ) (row : List Colour) → length (changed_upto g n row) ≡ length row
length_changed g n row = ap length (as_mix g n row) ∙ length_upto (λ _ d. g d) n row row refl

more_changed : (g : Colour → Colour) (n m j : ℕ) (row : List Colour) → j ≡ n + m → j ≤ length row
    → put_chunk n (changed_upto g n row) (map g (chunk n m (changed_upto g n row))) ≡ changed_upto g j row
more_changed g n m j row k h =
    let now = changed_upto g n row in
    let long : length (chunk n m row) ≡ length (chunk n m now) = length-chunk n m row (omega arith) ∙ sym (length-chunk n m now (let e = length_changed g n row in omega arith)) in
    ap (put_chunk n now) (sym (same_map g (chunk n m row) (chunk n m now) long))
    ∙ ap (λ l. put_chunk n l (zip2 (λ _ d. g d) (chunk n m row) (chunk n m l))) (as_mix g n row)
    ∙ more_put (λ _ d. g d) n m j row row k refl h ∙ sym (as_mix g j row)

pub step_changed : (g : Colour → Colour) (n m j : ℕ) (row now next : List Colour) → j ≡ n + m → j ≤ length row → now ≡ changed_upto g n row
    → next ≡ put_chunk n now (map g (chunk n m now)) → next ≡ changed_upto g j row
step_changed g n m j row now next k h is step = step ∙ ap (λ r. put_chunk n r (map g (chunk n m r))) is ∙ more_changed g n m j row k h

pub whole_changed : (g : Colour → Colour) (row : List Colour) → changed_upto g (length row) row ≡ map g row
whole_changed g row = as_mix g (length row) row ∙ whole (λ _ d. g d) row row refl ∙ same_map g row row refl

pub one_changed : (g : Colour → Colour) (n m : ℕ) (row now : List Colour) (d r t : Colour) → m ≡ n + 1 → n < length row → now ≡ changed_upto g n row
    → d ≡ get_or now n d → r ≡ g d → slice_set now n r ≡ changed_upto g m row
one_changed g n m row now d r t next low is q e = grind (arith, nat_tests, one_mixed, length_changed g n row, as_mix g n row, get_or_default row n t (get_or row n t) low, as_mix g m row)
