-- Rows that are put into parts of pixels.
use Rattle.std.proofs.Common.{◌≡◌, ℕ, zero, suc, ◌+◌, ◌-◌, ◌*◌, ◌≤◌, ◌<◌, ℤ, pos, nat_abs, ◌+ℤ◌, ◌≤ℤ◌, List, [], ◌∷◌, ◌++◌, length, take, drop, get_or, refl, ap, ap₂, sym, ◌∙◌, subst, append_assoc, mul_comm, arith}
use borrow.Rule.Slice.PartMut.{put_mid}
use Rattle.std.specs.List.{All}
use Rattle.std.proofs.Math.Nat.{mul-le-mul_right}
use Rattle.std.proofs.lemmas.Int.{ints}
use Rattle.std.proofs.lemmas.List.{length-append, length-take-le, length-drop, take-append-le, drop-append-le, drop-drop}
use Rattle.vz_pixels.specs.Colour.{Colour}
use Rattle.vz_buffers.specs.Canvas.{Canvas, IsCanvas, span_put}
use Rattle.vz_buffers.specs.Bands.{Strip, FitsIn, ArePainters, MayPaint, ArePainted, rows_put, rows_from}

take_behind : (xs ys : List Colour) (n m : ℕ) → m ≡ length xs + n → take m (xs ++ ys) ≡ xs ++ take n ys
take_behind [] ys n m is =
    let same : m ≡ n = omega (arith, is) in ap (λ k. take k ys) same
take_behind (x ∷ xs) ys n zero is = absurd (omega (arith, is))
take_behind (x ∷ xs) ys n (suc m) is =
    let less : m ≡ length xs + n = omega (arith, is) in ap (λ l. x ∷ l) (take_behind xs ys n m less)

drop_behind : (xs ys : List Colour) (n m : ℕ) → m ≡ length xs + n → drop m (xs ++ ys) ≡ drop n ys
drop_behind [] ys n m is =
    let same : m ≡ n = omega (arith, is) in ap (λ k. drop k ys) same
drop_behind (x ∷ xs) ys n zero is = absurd (omega (arith, is))
drop_behind (x ∷ xs) ys n (suc m) is =
    let less : m ≡ length xs + n = omega (arith, is) in drop_behind xs ys n m less

-- a span that is put into the first of two parts
span_front : (xs ys : List Colour) (at : ℕ) (row : List Colour) → at + length row ≤ length xs → span_put (xs ++ ys) at row ≡ span_put xs at row ++ ys
unfolding span_put
span_front xs ys at row fits =
    let near : at ≤ length xs = omega (arith, fits) in
    ap₂ (λ f r. f ++ row ++ r) (take-append-le at xs ys near) (drop-append-le (at + length row) xs ys fits)
    ∙ sym (append_assoc (take at xs ++ row) (drop (at + length row) xs) ys)

-- into the second one
span_back : (xs ys : List Colour) (at place : ℕ) (row : List Colour) → place ≡ length xs + at → span_put (xs ++ ys) place row ≡ xs ++ span_put ys at row
unfolding span_put
span_back xs ys at place row is =
    let far : place + length row ≡ length xs + (at + length row) = omega (arith, is) in
    ap₂ (λ f r. f ++ row ++ r) (take_behind xs ys at place is) (drop_behind xs ys (at + length row) (place + length row) far)
    ∙ (ap (λ l. l ++ drop (at + length row) ys) (append_assoc xs (take at ys) row) ∙ append_assoc xs (take at ys ++ row) (drop (at + length row) ys))

length_span : (xs : List Colour) (at : ℕ) (row : List Colour) → at + length row ≤ length xs → length (span_put xs at row) ≡ length xs
unfolding span_put
length_span xs at row fits =
    let near : at ≤ length xs = omega (arith, fits) in
    let both = length-append (take at xs ++ row) (drop (at + length row) xs) in
    let front = length-append (take at xs) row in
    let first = length-take-le at xs near in
    let rest = length-drop (at + length row) xs in
    omega (arith, fits, both, front, first, rest)

-- a row stands inside the pixels of as many rows
row_fits : (width at wide k count long : ℕ) → at + wide ≤ width → k < count → count * width ≤ long → (k * width + at) + wide ≤ long
row_fits width at wide k count long inside low all =
    let upto : (k + 1) * width ≤ count * width = mul-le-mul_right width (omega (arith, low)) in
    let next : (k + 1) * width ≡ k * width + width = grind arith in
    omega (arith, inside, all, upto, next)

-- the pixels stay as many
pub length_rows : (width at wide count : ℕ) (row : ℕ → List Colour) (xs : List Colour) → ((k : ℕ) → length (row k) ≡ wide) → at + wide ≤ width → count * width ≤ length xs → length (rows_put width at row count xs) ≡ length xs
unfolding rows_put
length_rows width at wide zero row xs same inside all = refl
length_rows width at wide (suc k) row xs same inside all =
    let next : (suc k) * width ≡ k * width + width = grind arith in
    let before = length_rows width at wide k row xs same inside (omega (arith, all, next)) in
    let fits = row_fits width at wide k (suc k) (length xs) inside (omega arith) all in
    let own = same k in
    length_span (rows_put width at row k xs) (k * width + at) (row k) (omega (arith, fits, before, own)) ∙ before

-- rows that are put into the first of two parts
pub rows_front : (width at wide count : ℕ) (row : ℕ → List Colour) (xs ys : List Colour) → ((k : ℕ) → length (row k) ≡ wide) → at + wide ≤ width → count * width ≤ length xs
    → rows_put width at row count (xs ++ ys) ≡ rows_put width at row count xs ++ ys
unfolding rows_put
rows_front width at wide zero row xs ys same inside all = refl
rows_front width at wide (suc k) row xs ys same inside all =
    let next : (suc k) * width ≡ k * width + width = grind arith in
    let less : k * width ≤ length xs = omega (arith, all, next) in
    let before = length_rows width at wide k row xs same inside less in
    let fits = row_fits width at wide k (suc k) (length xs) inside (omega arith) all in
    let own = same k in
    ap (λ l. span_put l (k * width + at) (row k)) (rows_front width at wide k row xs ys same inside less)
    ∙ span_front (rows_put width at row k xs) ys (k * width + at) (row k) (omega (arith, fits, before, own))

-- into the second one, behind so many pixels
pub rows_behind : (width at off count : ℕ) (row : ℕ → List Colour) (xs ys : List Colour) → length xs ≡ off → rows_put width (off + at) row count (xs ++ ys) ≡ xs ++ rows_put width at row count ys
unfolding rows_put
rows_behind width at off zero row xs ys is = refl
rows_behind width at off (suc k) row xs ys is =
    let place : k * width + (off + at) ≡ length xs + (k * width + at) = omega (arith, is) in
    ap (λ l. span_put l (k * width + (off + at)) (row k)) (rows_behind width at off k row xs ys is)
    ∙ span_back xs (rows_put width at row k ys) (k * width + at) (k * width + (off + at)) (row k) place

-- some rows into the first part, and the rest into the second one
pub rows_both : (width at wide first count : ℕ) (row : ℕ → List Colour) (xs ys : List Colour) → ((k : ℕ) → length (row k) ≡ wide) → at + wide ≤ width → length xs ≡ first * width
    → rows_put width at row (first + count) (xs ++ ys) ≡ rows_put width at row first xs ++ rows_put width at (rows_from first row) count ys
unfolding rows_put
rows_both width at wide first zero row xs ys same inside long =
    let none : first + zero ≡ first = omega arith in
    ap (λ n. rows_put width at row n (xs ++ ys)) none ∙ rows_front width at wide first row xs ys same inside (omega (arith, long))
rows_both width at wide first (suc k) row xs ys same inside long =
    let next : first + suc k ≡ suc (first + k) = omega arith in
    let parts : (first + k) * width ≡ first * width + k * width = grind arith in
    let before = length_rows width at wide first row xs same inside (omega (arith, long)) in
    let place : (first + k) * width + at ≡ length (rows_put width at row first xs) + (k * width + at) = omega (arith, parts, before, long) in
    ap (λ n. rows_put width at row n (xs ++ ys)) next
    ∙ (ap (λ l. span_put l ((first + k) * width + at) (row (first + k))) (rows_both width at wide first k row xs ys same inside long)
    ∙ span_back (rows_put width at row first xs) (rows_put width at (rows_from first row) k ys) (k * width + at) ((first + k) * width + at) (row (first + k)) place)

-- the rows behind some, and behind more
pub shift : (from first : ℕ) (row : ℕ → List Colour) → rows_from (from + first) row ≡ rows_from first (rows_from from row)
shift from first row = λ i k. row (further k i)
  where
    further : (k : ℕ) → (from + first) + k ≡ from + (first + k)
    further k = omega arith

all_rows : (row : ℕ → List Colour) → rows_from 0 row ≡ row
all_rows row = λ i k. row (none k i)
  where
    none : (k : ℕ) → 0 + k ≡ k
    none k = omega arith

-- what one of the painters draws, all of them draw
fits_too : {P : Type 0} (able : P → Type 0) (strip : P → Strip) (width left wide upto : ℕ) (painters : List P) (s : Strip) → 0 < length painters → ArePainters able strip width left wide upto painters
    → All (λ p. strip p ≡ s) painters → FitsIn width left wide s
fits_too able strip width left wide upto [] s some are same = absurd (omega (arith, some))
fits_too able strip width left wide upto (p ∷ ps) s some are same = subst (FitsIn width left wide) (sym (are.3 0 p some).1 ∙ same 0 p some) are.1

module _ {P : Type 0} (able : P → Type 0) (strip : P → Strip) (width left wide from count : ℕ) (painters : List P) (pixels : List Colour) (may : MayPaint able strip width left wide from count painters pixels) where
  -- the first painter, alone
  pub one_able : (d : P) → able (get_or painters 0 d)
  one_able d = (may.ready.3 0 d may.some).0

  pub one_fits : (d : P) → FitsIn width left wide (strip (get_or painters 0 d))
  one_fits d = subst (FitsIn width left wide) (sym (may.ready.3 0 d may.some).1) may.ready.1

  pub one_upto : (d : P) → from + count ≤ (strip (get_or painters 0 d)).high
  one_upto d = subst (λ (s : Strip). from + count ≤ s.high) (sym (may.ready.3 0 d may.some).1) may.ready.2

  pub one_painted : (d : P) (after : List Colour) → after ≡ rows_put width left (rows_from from (strip (get_or painters 0 d)).row) count pixels → ArePainted strip width left from count painters pixels after
  one_painted d after is = λ s same. is ∙ ap (λ (z : Strip). rows_put width left (rows_from from z.row) count pixels) (same 0 d may.some)

-- rows that were painted among more pixels
pub within_painted :
    {P : Type 0} (able : P → Type 0) (strip : P → Strip) (width left wide from count : ℕ) (painters : List P) (pixels front below rows rest painted : List Colour) (s : Strip) → 0 < length painters → ArePainters able strip width left wide count painters → All (λ p. strip p ≡ s) painters →
    pixels ≡ front ++ below → length front ≡ from → below ≡ rows ++ rest → length rows ≡ count * width → ArePainted strip width left 0 count painters rows painted →
    (front ++ (painted ++ rest)) ≡ rows_put width (from + left) s.row count pixels
within_painted able strip width left wide from count painters pixels front below rows rest painted s some are same cut long again high done =
    let fits = fits_too able strip width left wide count painters s some are same in
    let enough : count * width ≤ length rows = omega (arith, high) in
    let split : pixels ≡ front ++ (rows ++ rest) = cut ∙ ap (λ l. front ++ l) again in
    ap (λ l. front ++ l) (ap (λ l. l ++ rest) (done s same ∙ ap (λ r. rows_put width left r count rows) (all_rows s.row))
    ∙ sym (rows_front width left wide count s.row rows rest fits.each fits.inside enough))
    ∙ (sym (rows_behind width left from count s.row front (rows ++ rest) long) ∙ ap (rows_put width (from + left) s.row count) (sym split))

-- no row was put
pub band_begins : (width left from : ℕ) (s : Strip) (before : List Colour) → before ≡ rows_put width left (rows_from from s.row) 0 before
unfolding rows_put
band_begins width left from s before = refl

-- a row that was written in place
pub put_in_place : (pixels row : List Colour) (at end : ℕ) → end ≡ at + length row → put_mid at (end - at) pixels row ≡ span_put pixels at row
unfolding span_put
put_in_place pixels row at end is =
    let long : end - at ≡ length row = omega (arith, is) in
    ap (λ n. take at pixels ++ (row ++ drop n (drop at pixels))) long
    ∙ (ap (λ l. take at pixels ++ (row ++ l)) (drop-drop (length row) at pixels) ∙ sym (append_assoc (take at pixels) row (drop (at + length row) pixels)))

-- one row more was put
pub band_more : (width left from k at wide : ℕ) (s : Strip) (row before now : List Colour) → now ≡ rows_put width left (rows_from from s.row) k before → at ≡ k * width + left → row ≡ s.row (from + k) → length row ≡ wide
    → put_mid at ((at + wide) - at) now row ≡ rows_put width left (rows_from from s.row) (k + 1) before
unfolding rows_put
band_more width left from k at wide s row before now so_far place drawn long =
    let so = rows_put width left (rows_from from s.row) k before in
    let next : suc k ≡ k + 1 = omega arith in
    put_in_place now row at (at + wide) (ap (λ n. at + n) (sym long))
    ∙ (ap (λ l. span_put l at row) so_far
    ∙ (ap (λ n. span_put so n row) place
    ∙ (ap (span_put so (k * width + left)) drawn ∙ ap (λ n. rows_put width left (rows_from from s.row) n before) next)))

-- and they are as many as before
pub band_long : (pixels row before : List Colour) (at wide : ℕ) → length row ≡ wide → at + wide ≤ length pixels → length pixels ≡ length before → length (put_mid at ((at + wide) - at) pixels row) ≡ length before
band_long pixels row before at wide long fits all =
    let end : at + wide ≡ at + length row = ap (λ n. at + n) (sym long) in
    ap length (put_in_place pixels row at (at + wide) end) ∙ (length_span pixels at row (subst (λ n. n ≤ length pixels) end fits) ∙ all)

-- the row at hand stands inside the pixels
pub row_inside : (width left wide k count at : ℕ) (t : Strip) (pixels before : List Colour) → FitsIn width left wide t → k < count → length before ≡ count * width → length pixels ≡ length before → at ≡ k * width + left → at + wide ≤ length pixels
row_inside width left wide k count at t pixels before fits low all long place =
    let enough : count * width ≤ length pixels = omega (arith, all, long) in
    let inside = row_fits width left wide k count (length pixels) fits.inside low enough in
    omega (arith, inside, place)

-- the rows above an area, and those of the area
pub above_fits : (width top count long : ℕ) → (top + count) * width ≤ long → top * width ≤ long
above_fits width top count long all =
    let parts : (top + count) * width ≡ top * width + count * width = grind arith in
    omega (arith, all, parts)

pub below_fits : (width top count long below : ℕ) → (top + count) * width ≤ long → below + top * width ≡ long → count * width ≤ below
below_fits width top count long below all rest =
    let parts : (top + count) * width ≡ top * width + count * width = grind arith in
    omega (arith, all, parts, rest)

-- painters of the same rows, where the numbers have other names
pub moved_painters :
    {P : Type 0} (able : P → Type 0) (strip : P → Strip) (width left wide upto width2 left2 wide2 upto2 : ℕ) (painters : List P) → width2 ≡ width → left2 ≡ left → wide2 ≡ wide → upto2 ≡ upto → ArePainters able strip width left wide upto painters →
    ArePainters able strip width2 left2 wide2 upto2 painters
moved_painters able strip width left wide upto width2 left2 wide2 upto2 painters w l d u are =
    subst (λ n. ArePainters able strip n left2 wide2 upto2 painters) (sym w)
    (subst (λ n. ArePainters able strip width n wide2 upto2 painters) (sym l)
    (subst (λ n. ArePainters able strip width left n upto2 painters) (sym d) (subst (λ n. ArePainters able strip width left wide n painters) (sym u) are)))

-- the rows of an area inside a display are so many, and stand inside its pixels
pub area_fits : (b : Canvas) (y h : ℤ) (top count width : ℕ) → IsCanvas b → pos 0 ≤ℤ y → pos 1 ≤ℤ h → (y +ℤ h) ≤ℤ b.size.h → top ≡ nat_abs y → count ≡ nat_abs h → width ≡ nat_abs b.size.w
    → (top + count ≤ 2048) × ((top + count) * width ≤ length b.pixels) × (width ≤ 2048)
area_fits b y h top count width is above high inside top_is count_is width_is =
    let most = is.sides.not_too_high in
    let narrow = is.sides.not_too_wide in
    let low = is.sides.wide in
    let rows : top + count ≤ nat_abs b.size.h = omega (arith, ints, above, high, inside, top_is, count_is) in
    let few : top + count ≤ 2048 = omega (arith, ints, above, high, inside, top_is, count_is, most) in
    let upto : (top + count) * width ≤ nat_abs b.size.h * width = mul-le-mul_right width rows in
    let all : nat_abs b.size.h * width ≡ length b.pixels = ap (λ n. nat_abs b.size.h * n) width_is ∙ (mul_comm (nat_abs b.size.h) (nat_abs b.size.w) ∙ sym is.all) in
    (few, omega (arith, upto, all), omega (arith, ints, width_is, narrow, low))
