-- Where the pixels of a row stand.
use Rattle.std.proofs.Common.{◌≡◌, ℕ, ◌+◌, ◌*◌, ◌≤◌, ◌<◌, ℤ, pos, ◌+ℤ◌, ◌≤ℤ◌, ◌<ℤ◌, nat_abs, length, arith, subst, sym, refl, ◌∙◌, ap, List, get_or, slice_index_or, slice_get, Some}
use Rattle.std.proofs.Math.Nat.{mul-le-mul_right}
use Rattle.std.proofs.lemmas.Int.{ints}
use Rattle.std.proofs.lemmas.Option.{slice_get_read}
use Rattle.vz_pixels.specs.Colour.{Colour}
use Rattle.vz_buffers.specs.Canvas.{Canvas, IsCanvas, pixel_place}

-- a span of a row ends inside that many rows
row_ends : (x y n w h : ℕ) → x + n ≤ w → y < h → (y * w + x) + n ≤ h * w
row_ends x y n w h across down =
    let rows : (y + 1) * w ≤ h * w = mul-le-mul_right w (omega arith) in
    let one : (y + 1) * w ≡ y * w + w = grind arith in
    omega arith

sides : (x : ℤ) (n : ℕ) (w : ℤ) → pos 0 ≤ℤ x → (x +ℤ pos n) ≤ℤ w → nat_abs x + n ≤ nat_abs w
sides x n w low high = omega (arith, ints)

below : (y h : ℤ) → pos 0 ≤ℤ y → y <ℤ h → nat_abs y < nat_abs h
below y h low high = omega (arith, ints)

-- a span inside a row of a canvas stands inside its pixels
pub span_fits : (c : Canvas) → IsCanvas c → (x y : ℤ) (n : ℕ) → pos 0 ≤ℤ x → (x +ℤ pos n) ≤ℤ c.size.w → pos 0 ≤ℤ y → y <ℤ c.size.h → pixel_place c.size x y + n ≤ length c.pixels
span_fits c is x y n left right top bottom =
    let ends = row_ends (nat_abs x) (nat_abs y) n (nat_abs c.size.w) (nat_abs c.size.h) (sides x n c.size.w left right) (below y c.size.h top bottom) in
    let all = is.all in
    omega arith

-- the same, where a canvas is known under another name
pub span_fits_in : (b c : Canvas) → b ≡ c → IsCanvas b → (x y : ℤ) (n : ℕ) → pos 0 ≤ℤ x → (x +ℤ pos n) ≤ℤ c.size.w → pos 0 ≤ℤ y → y <ℤ c.size.h → pixel_place b.size x y + n ≤ length b.pixels
span_fits_in b c same is x y n left right top bottom =
    let P : Canvas → Type 0 = λ k. pixel_place k.size x y + n ≤ length k.pixels in
    let one : IsCanvas c = subst IsCanvas same is in
    subst P (sym same) (span_fits c one x y n left right top bottom)

one_more : (x w : ℤ) → x <ℤ w → (x +ℤ pos 1) ≤ℤ w
one_more x w h = omega (arith, ints)

-- a place inside stands inside the pixels
pub inside : (b c : Canvas) → b ≡ c → IsCanvas b → (x y : ℤ) → pos 0 ≤ℤ x → x <ℤ c.size.w → pos 0 ≤ℤ y → y <ℤ c.size.h → pixel_place b.size x y < length b.pixels
inside b c same is x y left right top bottom =
    let fits = span_fits_in b c same is x y 1 left (one_more x c.size.w right) top bottom in omega arith

-- what is read there is the pixel of the canvas
pub read : (b c : Canvas) → b ≡ c → (x y : ℤ) (place : ℕ) (p : Colour) → place < length b.pixels → place ≡ pixel_place b.size x y → p ≡ get_or b.pixels place p → slice_get c.pixels (pixel_place c.size x y) ≡ Some p
read b c same x y place p low stands is =
    let P : Canvas → Type 0 = λ k. slice_get k.pixels (pixel_place k.size x y) ≡ Some p in
    let there : slice_get b.pixels place ≡ Some p = slice_get_read b.pixels (length b.pixels) place p refl low is in
    subst P same (subst (λ (n : ℕ). slice_get b.pixels n ≡ Some p) stands there)

-- a span of a row begins inside it, or at its end
pub span_left : (x : ℤ) (n : ℕ) (w : ℤ) → (x +ℤ pos n) ≤ℤ w → x ≤ℤ w
span_left x n w h = omega (arith, ints)

-- the same of pixels that are those of the canvas
pub read_in : (b c : Canvas) → b ≡ c → (x y : ℤ) (place : ℕ) (p : Colour) (xs : List Colour) → xs ≡ b.pixels → place < length b.pixels → place ≡ pixel_place b.size x y → p ≡ slice_index_or xs place p
    → slice_get c.pixels (pixel_place c.size x y) ≡ Some p
read_in b c same x y place p xs is low stands found = read b c same x y place p low stands (found ∙ ap (λ l. slice_index_or l place p) is)
