-- A picture's colours are its pixels, and an area without a point changes nothing.
use Rattle.std.proofs.Common.{◌≡◌, ℕ, ◌+◌, ◌*◌, ◌/◌, ◌%◌, ◌<◌, nat_abs, true, false, List, length, map, get_or, sym, ap, subst, ◌∙◌, mul_comm, arith}
use Rattle.std.proofs.{Math.Nat.mod-lt, lemmas.Nat.div_below, lemmas.List.ext_get_or, lemmas.List.length-map, lemmas.Bool.Decides.nat_tests}
use Rattle.std.proofs.lemmas.Int.{ints}
use Rattle.vz_geom.specs.{declared.Point.Point, declared.Size.Size, Display.IsDisplaySize}
use Rattle.vz_geom.specs.Rectangle.{Rectangle, IsRectangle, Covers, has, points_of, sized, area_of, is_empty_rect, with_sides}
use Rattle.vz_geom.proofs.Bounds.{in_is_full, of_full, inside_of}
use Rattle.vz_pixels.specs.Colour.{Colour, black}
use Rattle.vz_buffers.specs.Canvas.{pixel_count, pixel_place}
use Rattle.vz_rules.specs.Frames.{patched}
use Rattle.vz_machine.specs.Pictured.{Pixelled, IsPixelled, IsInside, colours_in, picture_with}
use Rattle.vz_machine.proofs.Points.{point, points_at, length_points, map_at, patched_none}
use Rattle.vz_machine.proofs.Spans.{place_is}

colour_of : Size → List Colour → Point → Colour
colour_of size pixels q = get_or pixels (pixel_place size q.x q.y) black

-- the colours of all points are the pixels
pub colours_of_pixels : (size : Size) (pixels : List Colour) → IsDisplaySize size → length pixels ≡ pixel_count size → map (λ (q : Point). get_or pixels (pixel_place size q.x q.y) black) (points_of size) ≡ pixels
unfolding colour_of
colours_of_pixels size pixels sides all =
    ext_get_or black (map (colour_of size pixels) (points_of size)) pixels (length-map (points_of size) (colour_of size pixels) ∙ (length_points size ∙ (mul_comm (nat_abs size.h) (nat_abs size.w) ∙ sym all))) same_at
  where
    same_at : (i : ℕ) → i < length (map (colour_of size pixels) (points_of size)) → get_or (map (colour_of size pixels) (points_of size)) i black ≡ get_or pixels i black
    same_at i low =
        let wide_side = sides.wide in
        let mapped = length-map (points_of size) (colour_of size pixels) in
        let count = length_points size in
        let wide : 0 < nat_abs size.w = omega (arith, ints, wide_side) in
        let in_points : i < length (points_of size) = omega (arith, low, mapped) in
        let in_it : i < nat_abs size.h * nat_abs size.w = omega (arith, in_points, count) in
        let row : i / nat_abs size.w < nat_abs size.h = div_below i (nat_abs size.w) (nat_abs size.h) wide in_it in
        let column : i % nat_abs size.w < nat_abs size.w = mod-lt i wide in
        let back : (i / nat_abs size.w) * nat_abs size.w + i % nat_abs size.w ≡ i = place_is (nat_abs size.w) i wide in
        let here : get_or (points_of size) i (point 0 0) ≡ point (i % nat_abs size.w) (i / nat_abs size.w) =
        ap (λ k. get_or (points_of size) k (point 0 0)) (sym back) ∙ points_at size (i % nat_abs size.w) (i / nat_abs size.w) (point 0 0) column row in
        map_at (colour_of size pixels) (points_of size) i (point 0 0) black in_points
        ∙ (ap (colour_of size pixels) here ∙ ap (λ k. get_or pixels k black) back)

pub colours_are : (p : Pixelled) → IsPixelled p → colours_in (picture_with p) ≡ p.pixels
colours_are p is = colours_of_pixels p.size p.pixels is.sides is.all

-- an area without a point has none
no_point : (area : Rectangle) (p : Point) → is_empty_rect area ≡ true → has area p ≡ false
no_point area p empty = grind (arith, nat_tests, in_is_full area p)

pub nothing_patched : (size : Size) (area : Rectangle) (news olds : List Colour) → length news ≡ pixel_count size → length olds ≡ pixel_count size → is_empty_rect area ≡ true → olds ≡ patched area (points_of size) news olds
nothing_patched size area news olds all old_all empty = grind (arith, nat_tests, length_points size, patched_none area (points_of size) news olds, no_point area)

pub nothing_counted : (area : Rectangle) → IsRectangle area → is_empty_rect area ≡ true → 0 ≡ area_of area
unfolding with_sides area_of
nothing_counted area is empty = grind (arith, nat_tests)

-- an area on a display that has points
pub inside_all : (size : Size) (area : Rectangle) → Covers (sized size) area → is_empty_rect area ≡ false → IsInside (sized size) area
inside_all size area covers full = grind (arith, nat_tests, of_full area full, inside_of (sized size) area)

-- what is painted with the pixels is painted with the picture's colours
pub painted_whole : (size : Size) (area : Rectangle) (own p : Pixelled) (news olds : List Colour) → size ≡ p.size → own ≡ p → IsPixelled own → news ≡ own.pixels
    → patched area (points_of size) news olds ≡ patched area (points_of p.size) (colours_in (picture_with p)) olds
painted_whole size area own p news olds same is proper all = grind (arith, nat_tests, colours_are p (subst IsPixelled is proper))
