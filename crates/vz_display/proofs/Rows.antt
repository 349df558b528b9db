-- The bytes of a row of a buffer stand among the bytes of all its pixels.
use Rattle.std.proofs.Common.{◌≡◌, ℕ, zero, suc, ◌+◌, ◌*◌, ◌≤◌, ◌<◌, ℤ, pos, nat_abs, ◌≤ℤ◌, ◌<ℤ◌, List, [], ◌∷◌, take, drop, length, refl, ap, sym, ◌∙◌, mul_comm, arith}
use Rattle.std.specs.List.{flat_map}
use Rattle.std.proofs.Math.Nat.{mul-le-mul_right}
use Rattle.std.proofs.lemmas.Int.{ints}
use Rattle.std.proofs.lemmas.List.{length-take-le, length-drop}
use Rattle.vz_geom.specs.declared.Size.{Size}
use Rattle.vz_geom.proofs.Numbers.{given, stays}
use Rattle.vz_pixels.specs.Colour.{Colour}
use Rattle.vz_buffers.specs.Canvas.{Canvas, IsCanvas}
use Rattle.vz_rules.specs.Frames.{pixel_bytes}
use Rattle.vz_display.specs.Displayed.{row_at}

-- four more
four : (n : ℕ) → 4 * suc n ≡ suc (suc (suc (suc (4 * n))))
four n = omega arith

-- no bytes
abbrev none : List ℕ
none = []

drop_none : (n : ℕ) → drop n none ≡ none
drop_none zero = refl
drop_none (suc n) = refl

take_none : (n : ℕ) → take n none ≡ none
take_none zero = refl
take_none (suc n) = refl

-- each pixel has four bytes
pub length_bytes : (pixels : List Colour) → length (flat_map pixel_bytes pixels) ≡ 4 * length pixels
length_bytes [] = refl
length_bytes (p ∷ pixels) = let more = length_bytes pixels in omega (arith, more)

-- the bytes behind those of so many pixels
drop_bytes : (n : ℕ) (pixels : List Colour) → drop (4 * n) (flat_map pixel_bytes pixels) ≡ flat_map pixel_bytes (drop n pixels)
drop_bytes zero pixels = refl
drop_bytes (suc n) [] = drop_none (4 * suc n)
drop_bytes (suc n) (p ∷ pixels) = ap (λ m. drop m (flat_map pixel_bytes (p ∷ pixels))) (four n) ∙ drop_bytes n pixels

-- the bytes of so many pixels
take_bytes : (n : ℕ) (pixels : List Colour) → take (4 * n) (flat_map pixel_bytes pixels) ≡ flat_map pixel_bytes (take n pixels)
take_bytes zero pixels = refl
take_bytes (suc n) [] = take_none (4 * suc n)
take_bytes (suc n) (p ∷ pixels) =
    ap (λ m. take m (flat_map pixel_bytes (p ∷ pixels))) (four n) ∙ ap (λ l. p.r ∷ p.g ∷ p.b ∷ p.a ∷ l) (take_bytes n pixels)

-- the bytes of some pixels in the middle
bytes_within : (from count : ℕ) (pixels : List Colour) → take (4 * count) (drop (4 * from) (flat_map pixel_bytes pixels)) ≡ flat_map pixel_bytes (take count (drop from pixels))
bytes_within from count pixels = ap (take (4 * count)) (drop_bytes from pixels) ∙ take_bytes count (drop from pixels)

-- the width as it is read
pub width_is : (b : Canvas) (s : Size) (width : ℕ) → IsCanvas b → s ≡ b.size → width ≡ nat_abs (given s.w) → width ≡ nat_abs b.size.w
width_is b s width is same read =
    let wide = is.sides.wide in
    let most = is.sides.not_too_wide in
    let w_is : s.w ≡ b.size.w = ap (λ (z : Size). z.w) same in
    read ∙ (ap (λ z. nat_abs (given z)) w_is ∙ ap nat_abs (stays b.size.w (omega (arith, ints, wide)) (omega (arith, ints, most))))

-- a row stands inside the bytes
pub row_fits : (b : Canvas) (size : Size) (y : ℤ) (row width : ℕ) (bytes : List ℕ) → IsCanvas b → b.size ≡ size → pos 0 ≤ℤ y → y <ℤ size.h → width ≡ nat_abs b.size.w → row ≡ nat_abs (given y)
    → bytes ≡ flat_map pixel_bytes b.pixels → 4 * (row * width) + 4 * width ≤ length bytes
row_fits b size y row width bytes is same top bottom wide read all =
    let most = is.sides.not_too_high in
    let h_is : b.size.h ≡ size.h = ap (λ (s : Size). s.h) same in
    let row_is : row ≡ nat_abs y = read ∙ ap nat_abs (stays y (omega (arith, ints, top)) (omega (arith, ints, bottom, h_is, most))) in
    let down : row < nat_abs b.size.h = omega (arith, ints, top, bottom, h_is, row_is) in
    let rows : (row + 1) * width ≤ nat_abs b.size.h * width = mul-le-mul_right width (omega (arith, down)) in
    let one : (row + 1) * width ≡ row * width + width = grind arith in
    let count : nat_abs b.size.h * width ≡ length b.pixels = ap (λ n. nat_abs b.size.h * n) wide ∙ (mul_comm (nat_abs b.size.h) (nat_abs b.size.w) ∙ sym is.all) in
    let long : length bytes ≡ 4 * length b.pixels = ap length all ∙ length_bytes b.pixels in
    omega (arith, rows, one, count, long)

-- as many bytes as the row's pixels have
pub bytes_fit : (b : Canvas) (size : Size) (from width bytes : ℕ) (all row : List ℕ) → b.size ≡ size → width ≡ nat_abs b.size.w → 4 * from + 4 * width ≤ length all
    → row ≡ take (4 * width) (drop (4 * from) all) → bytes ≡ 4 * nat_abs size.w → bytes ≡ length row
bytes_fit b size from width bytes all row same wide fits is counted =
    let left = length-drop (4 * from) all in
    let row_long : length row ≡ 4 * width = ap length is ∙ length-take-le (4 * width) (drop (4 * from) all) (omega (arith, left, fits)) in
    let w_is : nat_abs b.size.w ≡ nat_abs size.w = ap (λ (s : Size). nat_abs s.w) same in
    omega (arith, row_long, w_is, wide, counted)

-- the span has the bytes of the row
pub row_is : (b : Canvas) (size : Size) (y : ℤ) (row width : ℕ) (all span : List ℕ) → IsCanvas b → b.size ≡ size → pos 0 ≤ℤ y → y <ℤ size.h → width ≡ nat_abs b.size.w → row ≡ nat_abs (given y)
    → all ≡ flat_map pixel_bytes b.pixels → span ≡ take (4 * width) (drop (4 * (row * width)) all) → span ≡ flat_map pixel_bytes (row_at b y)
row_is b size y row width all span is same top bottom wide read bytes taken =
    let most = is.sides.not_too_high in
    let h_is : b.size.h ≡ size.h = ap (λ (s : Size). s.h) same in
    let row_at_y : row ≡ nat_abs y = read ∙ ap nat_abs (stays y (omega (arith, ints, top)) (omega (arith, ints, bottom, h_is, most))) in
    taken ∙ (ap (λ l. take (4 * width) (drop (4 * (row * width)) l)) bytes
    ∙ (bytes_within (row * width) width b.pixels
    ∙ (ap (λ n. flat_map pixel_bytes (take n (drop (row * n) b.pixels))) wide ∙ ap (λ n. flat_map pixel_bytes (take (nat_abs b.size.w) (drop (n * nat_abs b.size.w) b.pixels))) row_at_y)))
