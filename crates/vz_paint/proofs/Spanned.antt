-- The part of a row that an area has, and what is laid there.
use Rattle.std.proofs.Common.{◌≡◌, ℕ, ◌≤◌, ◌<◌, ℤ, pos, ◌+ℤ◌, ◌≤ℤ◌, ◌<ℤ◌, ◌&&◌, List, [], ◌∷◌, length, map, replicate, refl, ap, ◌∙◌, arith}
use Rattle.std.specs.Prelude.{nat_le, nat_lt}
use Rattle.std.proofs.{lemmas.Int.ints, lemmas.Bool.Decides.nat_tests}
use Rattle.std.proofs.lemmas.Bool.{and_parts, ltb-false, leb-true, le-leb, lt-ltb, and_from as and_both}
use lib.Lanes.{zip2}
use Rattle.vz_geom.specs.{declared.Point.Point, Rectangle.Rectangle, Rectangle.IsRectangle, Rectangle.has}
use Rattle.vz_geom.proofs.{Numbers.given, Numbers.stays, Sets.to_in, Sets.of_in, Sets.same_test as same_tests}
use Rattle.vz_pixels.specs.Colour.{Colour, scale}
use Rattle.vz_frame.specs.{declared.blend.Blend.Blend, Blending.blend, Blending.laid}
use Rattle.vz_frame.specs.declared.blend.Blend.TheVariants.{Over, Src, DstIn}
use Rattle.vz_kernel.specs.Rows.{laid_over, scaled, kept_in, tinted, faded}
use Rattle.vz_paint.specs.Row.{right_of}

-- Where the part is

-- so many columns stand left of a column
pub record IsBefore (x start : ℤ) (count n : ℕ) : Type 0 where
  pub most : n ≤ count
  pub left : 0 < n → (start +ℤ pos n) ≤ℤ x
  pub right : n < count → x ≤ℤ (start +ℤ pos n)

-- edges are passed as they are
pub left_given : (area : Rectangle) (x : ℤ) → IsRectangle area → x ≡ area.x → given x ≡ area.x
left_given area x is same = grind (arith, nat_tests, stays x, ints)

pub right_given : (area : Rectangle) (x : ℤ) → IsRectangle area → x ≡ area.x +ℤ area.w → given x ≡ area.x +ℤ area.w
right_given area x is same = grind (arith, nat_tests, stays x, ints)

pub ordered : (start x right : ℤ) (count from to : ℕ) → x ≤ℤ right → IsBefore x start count from → IsBefore right start count to → from ≤ to
ordered start x right count from to wide f t = grind (arith, nat_tests, ints, ltb-false to from)

pub exact : (area : Rectangle) (start : Point) (count from to : ℕ) → area.y ≤ℤ start.y → start.y <ℤ (area.y +ℤ area.h)
    → IsBefore area.x start.x count from → IsBefore (area.x +ℤ area.w) start.x count to
    → (i : ℕ) → i < count → has area (right_of start i) ≡ (nat_le from i && nat_lt i to)
exact area start count from to top bottom f t i low = grind (arith, nat_tests, same_tests, to_in, and_both, le-leb, lt-ltb, ints, ltb-false, and_parts, leb-true, of_in)

-- One colour, and a row of them

constant : (l : List Colour) (c : Colour) → replicate (length l) c ≡ map (λ _. c) l
constant [] c = refl
constant (x ∷ l) c = ap (λ t. c ∷ t) (constant l c)

pub tint_over : (mode : Blend) (c : Colour) (now old : List Colour) → mode ≡ Over → now ≡ tinted c old → now ≡ map (blend mode c) old
unfolding tinted blend
tint_over mode c now old is e = rw is e

pub tint_src : (mode : Blend) (c : Colour) (now old : List Colour) → mode ≡ Src → now ≡ replicate (length old) c → now ≡ map (blend mode c) old
unfolding blend
tint_src mode c now old is e = rw is (e ∙ constant old c)

pub tint_dst_in : (mode : Blend) (c : Colour) (now old : List Colour) → mode ≡ DstIn → now ≡ faded c old → now ≡ map (blend mode c) old
unfolding faded blend
tint_dst_in mode c now old is e = rw is e

pub mix_over : (mode : Blend) (o : ℕ) (now source old : List Colour) → mode ≡ Over → now ≡ laid_over source o old → now ≡ zip2 (λ s d. laid mode s o d) source old
unfolding laid_over laid blend
mix_over mode o now source old is e = rw is e

first_alone : (o : ℕ) (source old : List Colour) → length old ≡ length source → map (λ c. scale c o) source ≡ zip2 (λ s d. laid Src s o d) source old
unfolding laid blend
first_alone o [] old all = refl
first_alone o (s ∷ source) [] all = absurd (omega (arith, all))
first_alone o (s ∷ source) (c ∷ old) all = grind (arith, nat_tests, first_alone o source old)

pub mix_src : (mode : Blend) (o : ℕ) (now source old : List Colour) → mode ≡ Src → length old ≡ length source → now ≡ scaled source o → now ≡ zip2 (λ s d. laid mode s o d) source old
unfolding scaled
mix_src mode o now source old is all e = rw is (e ∙ first_alone o source old all)

pub mix_dst_in : (mode : Blend) (o : ℕ) (now source old : List Colour) → mode ≡ DstIn → now ≡ kept_in source o old → now ≡ zip2 (λ s d. laid mode s o d) source old
unfolding kept_in laid blend
mix_dst_in mode o now source old is e = rw is e
