-- Rows that are put behind others.
use Rattle.std.proofs.Common.{◌≡◌, ℕ, zero, suc, ◌+◌, ◌-◌, ◌*◌, ◌≤◌, ◌<◌, List, ◌++◌, length, take, drop, refl, sym, ap, ◌∙◌, append_assoc, take-append-drop, arith}
use Rattle.std.proofs.{Math.Nat.mul-le-mul_right, lemmas.List.length-take-le, lemmas.List.length-drop, lemmas.List.take-append-le, lemmas.List.drop-append-le, Math.Seq.take-append_seam, Math.Seq.drop-append_seam}
use borrow.Rule.Slice.PartMut.{put_mid}
use Rattle.vz_pixels.specs.Colour.{Colour}
use Rattle.vz_buffers.specs.{Bands.rows_put, Bands.rows_from, Canvas.span_put}
use Rattle.vz_buffers.proofs.Banding.{rows_behind, rows_front, length_rows, put_in_place, band_long}

-- some rows, and more behind them, are rows
pub rows_more : (width left d n : ℕ) (row : ℕ → List Colour) (before : List Colour) → rows_put width (d * width + left) (rows_from d row) n (rows_put width left row d before) ≡ rows_put width left row (d + n) before
unfolding rows_put
rows_more width left d zero row before =
    let none : d ≡ d + zero = omega arith in ap (λ m. rows_put width left row m before) none
rows_more width left d (suc n) row before =
    let place : n * width + (d * width + left) ≡ (d + n) * width + left = grind arith in
    let next : suc (d + n) ≡ d + suc n = omega arith in
    ap (λ l. span_put l (n * width + (d * width + left)) (row (d + n))) (rows_more width left d n row before)
    ∙ (ap (λ m. span_put (rows_put width left row (d + n) before) m (row (d + n))) place ∙ ap (λ m. rows_put width left row m before) next)

-- rows that are the same are put the same
pub rows_like : (width at n : ℕ) (f g : ℕ → List Colour) (xs : List Colour) → ((k : ℕ) → k < n → f k ≡ g k) → rows_put width at f n xs ≡ rows_put width at g n xs
unfolding rows_put
rows_like width at zero f g xs same = refl
rows_like width at (suc k) f g xs same =
    ap (λ l. span_put l (k * width + at) (f k)) (rows_like width at k f g xs (λ j low. same j (omega (arith, low))))
    ∙ ap (span_put (rows_put width at g k xs) (k * width + at)) (same k (omega arith))

-- a row that was put is found there
pub row_back : (at wide : ℕ) (xs row : List Colour) → length row ≡ wide → at ≤ length xs → take wide (drop at (span_put xs at row)) ≡ row
unfolding span_put
row_back at wide xs row long fits =
    let rest = drop (at + length row) xs in
    let front : at ≡ length (take at xs) = sym (length-take-le at xs fits) in
    ap (λ l. take wide (drop at l)) (append_assoc (take at xs) row rest)
    ∙ (ap (λ n. take wide (drop n (take at xs ++ (row ++ rest)))) front
    ∙ (ap (take wide) (drop-append_seam (take at xs) (row ++ rest)) ∙ (ap (λ n. take n (row ++ rest)) (sym long) ∙ take-append_seam row rest)))

-- the same row once more
pub no_row : (width left : ℕ) (row before : List Colour) → before ≡ rows_put width left (λ k. row) 0 before
unfolding rows_put
no_row width left row before = refl

pub row_more : (width left k at : ℕ) (row new now before : List Colour) → now ≡ rows_put width left (λ k. row) k before → at ≡ k * width + left → new ≡ row → put_mid at ((at + length row) - at) now new ≡ rows_put width left (λ k. row) (k + 1) before
unfolding rows_put
row_more width left k at row new now before is place copied =
    let next : suc k ≡ k + 1 = omega arith in
    ap (put_mid at ((at + length row) - at) now) copied
    ∙ (put_in_place now row at (at + length row) refl
    ∙ (ap (λ l. span_put l at row) is ∙ (ap (λ n. span_put (rows_put width left (λ k. row) k before) n row) place ∙ ap (λ n. rows_put width left (λ k. row) n before) next)))

pub row_more_long : (width left k count at : ℕ) (row new now before : List Colour) → left + length row ≤ width → count * width ≤ length before → k < count → length now ≡ length before → at ≡ k * width + left → new ≡ row
    → length (put_mid at ((at + length row) - at) now new) ≡ length before
row_more_long width left k count at row new now before inside fits low same place copied =
    let upto : (k + 1) * width ≤ count * width = mul-le-mul_right width (omega (arith, low)) in
    let next : (k + 1) * width ≡ k * width + width = grind arith in
    band_long now new before at (length row) (ap length copied) (omega (arith, inside, fits, same, place, upto, next)) same

-- rows that were put into a part are put into the whole
pub put_part : (width left wide count off : ℕ) (row : ℕ → List Colour) (px mid : List Colour) → ((k : ℕ) → length (row k) ≡ wide) → left + wide ≤ width → off + count * width ≤ length px
    → mid ≡ rows_put width left row count (take (count * width) (drop off px)) → put_mid off (count * width) px mid ≡ rows_put width (off + left) row count px
put_part width left wide count off row px mid same inside fits is =
    let n = count * width in
    let front = take off px in
    let rows = take n (drop off px) in
    let rest = drop n (drop off px) in
    let below = length-drop off px in
    let enough : n ≤ length (drop off px) = omega (arith, below, fits) in
    let high = length-take-le n (drop off px) enough in
    let split : front ++ (rows ++ rest) ≡ px = ap (λ l. front ++ l) (take-append-drop n (drop off px)) ∙ take-append-drop off px in
    ap (λ l. front ++ (l ++ rest)) is
    ∙ (ap (λ l. front ++ l) (sym (rows_front width left wide count row rows rest same inside (omega (arith, high))))
    ∙ (sym (rows_behind width left off count row front (rows ++ rest) (length-take-le off px (omega (arith, fits)))) ∙ ap (rows_put width (off + left) row count) split))

-- the part of a band
pub band_part : (width d n a b : ℕ) (px : List Colour) → a ≡ d * width + 0 → b ≡ (d + n) * width + 0 → take (b - a) (drop a px) ≡ take (n * width) (drop (d * width) px)
band_part width d n a b px a_is b_is =
    let parts : (d + n) * width ≡ d * width + n * width = grind arith in
    let first : a ≡ d * width = omega (arith, a_is) in
    let long : b - a ≡ n * width = omega (arith, a_is, b_is, parts) in
    ap (λ m. take m (drop a px)) long ∙ ap (λ m. take (n * width) (drop m px)) first

-- a row, and copies of it, where all rows are like it
pub rows_repeated : (width left wide d n at : ℕ) (row : ℕ → List Colour) (before px new copied : List Colour) → ((k : ℕ) → length (row k) ≡ wide) → ((j : ℕ) → j < n → row (d + j) ≡ row d) → 0 < n → at ≡ d * width + left → at ≤ length (rows_put width left row d before)
    → px ≡ rows_put width left row (d + 1) before → copied ≡ take wide (drop at px) → new ≡ rows_put width ((d + 1) * width + left) (λ k. copied) (n - 1) px
    → new ≡ rows_put width left row (d + n) before
unfolding rows_put
rows_repeated width left wide d n at row before px new copied same like some place fits is copied_is new_is =
    let next : d + 1 ≡ suc d = omega arith in
    let drawn : px ≡ span_put (rows_put width left row d before) at (row d) =
    is ∙ (ap (λ m. rows_put width left row m before) next ∙ ap (λ m. span_put (rows_put width left row d before) m (row d)) (sym place)) in
    let own : copied ≡ row d = copied_is ∙ (ap (λ l. take wide (drop at l)) drawn ∙ row_back at wide (rows_put width left row d before) (row d) (same d) fits) in
    let each : (k : ℕ) → k < n - 1 → copied ≡ rows_from (d + 1) row k = λ k low.
    let further : (d + 1) + k ≡ d + (1 + k) = omega arith in own ∙ (sym (like (1 + k) (omega (arith, low))) ∙ ap row (sym further)) in
    let all : (d + 1) + (n - 1) ≡ d + n = omega (arith, some) in
    new_is
    ∙ (rows_like width ((d + 1) * width + left) (n - 1) (λ k. copied) (rows_from (d + 1) row) px each
    ∙ (ap (rows_put width ((d + 1) * width + left) (rows_from (d + 1) row) (n - 1)) is
    ∙ (rows_more width left (d + 1) (n - 1) row before ∙ ap (λ m. rows_put width left row m before) all)))

-- there are pixels for the copies
pub rows_fit : (width d n count next long below : ℕ) → 0 < n → d + n ≤ count → long ≡ count * width → next ≡ (d + 1) * width + 0 → below + next ≡ long → (n - 1) * width ≤ below
rows_fit width d n count next long below some low all next_is rest =
    let more : (d + 1) + (n - 1) ≡ d + n = omega (arith, some) in
    let upto : ((d + 1) + (n - 1)) * width ≤ count * width = mul-le-mul_right width (omega (arith, more, low)) in
    let parts : ((d + 1) + (n - 1)) * width ≡ (d + 1) * width + (n - 1) * width = grind arith in
    omega (arith, all, next_is, rest, upto, parts)

-- a row of the first of two parts, copied into the second one
module _ (width left wide d n count at next : ℕ) (row : ℕ → List Colour) (before px above below new : List Colour) (inside : left + wide ≤ width) (same : (k : ℕ) → length (row k) ≡ wide) (long : length before ≡ length px) (all : length px ≡ count * width) (like : (j : ℕ) → j < n → row (d + j) ≡ row d) (some : 0 < n) (low : d + n ≤ count) (place : at ≡ d * width + left) (next_is : next ≡ (d + 1) * width + 0) (cut : px ≡ above ++ below) (front : length above ≡ next) where
  one_row : (d + 1) * width ≡ d * width + width
  one_row = grind arith

  upto_row : (d + 1) * width ≤ count * width
  upto_row = mul-le-mul_right width (omega (arith, some, low))

  ends : at + wide ≤ length above
  ends =
      let one = one_row in omega (arith, inside, place, next_is, front, one)

  found : take ((at + wide) - at) (drop at above) ≡ take wide (drop at px)
  found =
      let fits = ends in
      let rest = length-drop at above in
      let wide_is : (at + wide) - at ≡ wide = omega arith in
      ap (λ m. take m (drop at above)) wide_is
      ∙ (sym (take-append-le wide (drop at above) below (omega (arith, fits, rest)))
      ∙ (ap (take wide) (sym (drop-append-le at above below (omega (arith, fits)))) ∙ ap (λ l. take wide (drop at l)) (sym cut)))

  rows_before : at ≤ length (rows_put width left row d before)
  rows_before =
      let one = one_row in
      let upto = upto_row in
      let stays = length_rows width left wide d row before same inside (omega (arith, long, all, one, upto)) in
      omega (arith, stays, long, all, one, upto, place, inside)

  pub row_repeated : px ≡ rows_put width left row (d + 1) before → new ≡ rows_put width left (λ k. take ((at + wide) - at) (drop at above)) (n - 1) below → above ++ new ≡ rows_put width left row (d + n) before
  row_repeated is new_is =
      let copied = take ((at + wide) - at) (drop at above) in
      rows_repeated width left wide d n at row before px (above ++ new) copied same like some place rows_before is found
      (ap (λ l. above ++ l) new_is
      ∙ (sym (rows_behind width left ((d + 1) * width) (n - 1) (λ k. copied) above below (omega (arith, front, next_is))) ∙ ap (rows_put width ((d + 1) * width + left) (λ k. copied) (n - 1)) (sym cut)))

-- a band that was painted in its place
pub band_painted : (width left wide d n a b : ℕ) (row : ℕ → List Colour) (px mid : List Colour) → ((k : ℕ) → length (row k) ≡ wide) → left + wide ≤ width → (d + n) * width ≤ length px → a ≡ d * width + 0 → b ≡ (d + n) * width + 0
    → mid ≡ rows_put width left row n (take (b - a) (drop a px)) → put_mid a (b - a) px mid ≡ rows_put width (d * width + left) row n px
band_painted width left wide d n a b row px mid same inside fits a_is b_is is =
    let parts : (d + n) * width ≡ d * width + n * width = grind arith in
    let first : a ≡ d * width = omega (arith, a_is) in
    let long : b - a ≡ n * width = omega (arith, a_is, b_is, parts) in
    ap (λ m. put_mid m (b - a) px mid) first
    ∙ (ap (λ m. put_mid (d * width) m px mid) long
    ∙ put_part width left wide n (d * width) row px mid same inside (omega (arith, fits, parts)) (is ∙ ap (rows_put width left row n) (band_part width d n a b px a_is b_is)))
