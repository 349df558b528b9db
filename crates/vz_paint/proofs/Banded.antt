-- The rows of an area are the area.
use Rattle.std.proofs.Common.{◌≡◌, ℕ, ◌≤◌, ◌<◌, pos, nat_abs, ◌≤ℤ◌, true, List, length, map, refl, ap, ◌∙◌, arith}
use Rattle.std.proofs.{lemmas.Int.ints, lemmas.Bool.Decides.nat_tests}
use Rattle.vz_geom.specs.{declared.Point.Point, Rectangle.Rectangle, Rectangle.has, Rectangle.points_of, Rectangle.sized, Display.IsDisplaySize}
use Rattle.vz_geom.specs.declared.Size.{Size}
use Rattle.vz_pixels.specs.Colour.{Colour, black}
use Rattle.vz_buffers.specs.{Canvas.pixel_count, Canvas.pixel_place, Bands.rows_put}
use Rattle.vz_rules.specs.Frames.{patched}
use Rattle.vz_machine.specs.Pictured.{IsInside}
use Rattle.vz_machine.proofs.Rows.{rows_end}
use Rattle.vz_geom.proofs.Sets.{of_in}
use Rattle.vz_flat.specs.{declared.op.Op.Op, Ops.value, Ops.is_whole, Ops.deepest}
use Rattle.vz_paint.specs.{Choice.seen, Row.place_in, Strips.strip_of}
use Rattle.vz_paint.proofs.{Chosen.seen_same, Chosen.seen_whole, Chosen.seen_deepest, Painted.rows_painted}

in_area : (area : Rectangle) (i k : ℕ) → k < nat_abs area.h → i < nat_abs area.w → pos 1 ≤ℤ area.w → pos 1 ≤ℤ area.h → has area (place_in area i k) ≡ true
in_area area i k low less wide high = grind (arith, nat_tests, of_in area (place_in area i k), ints)

-- what stands on a ground does in an area what all that is seen there does on black
pub record StandsOn (area : Rectangle) (chosen rest : List Op) (ground : Colour) : Type 0 where
  pub same : (p : Point) → has area p ≡ true → value rest p ground ≡ value chosen p black
  pub whole : is_whole rest ≡ is_whole chosen
  pub deep : deepest 0 rest ≡ deepest 0 chosen

-- all rows of an area, with the operations that are seen in it
pub area_painted : (size : Size) (area : Rectangle) (ops chosen rest : List Op) (ground : Colour) (olds now : List Colour) → IsDisplaySize size → IsInside (sized size) area → is_whole ops ≡ true → chosen ≡ seen area 0 ops → StandsOn area chosen rest ground
    → length olds ≡ pixel_count size → now ≡ rows_put (nat_abs size.w) (pixel_place size area.x area.y) (strip_of rest ground area).row (nat_abs area.h) olds
    → now ≡ patched area (points_of size) (map (λ p. value ops p black) (points_of size)) olds
area_painted size area ops chosen rest ground olds now sides inside whole is stands all put =
    let colour = λ (p : Point). value ops p black in
    let wide = inside.wide in
    let high = inside.high in
    rows_end size area (nat_abs area.h) (map colour (points_of size)) olds now high refl
    (put ∙ rows_painted size area (nat_abs area.h) rest ground colour olds sides inside (omega arith) all
    (λ k i low less.
    let there : has area (place_in area i k) ≡ true = in_area area i k low less wide high in
    stands.same (place_in area i k) there ∙ (ap (λ l. value l (place_in area i k) black) is ∙ seen_same area (place_in area i k) there ops black whole)))

pub whole_is : (area : Rectangle) (ops chosen rest : List Op) (ground : Colour) → is_whole ops ≡ true → chosen ≡ seen area 0 ops → StandsOn area chosen rest ground → is_whole rest ≡ true
whole_is area ops chosen rest ground whole is stands = stands.whole ∙ (ap is_whole is ∙ seen_whole area ops whole)

pub room_is : (area : Rectangle) (ops chosen rest : List Op) (ground : Colour) (most : ℕ) → chosen ≡ seen area 0 ops → StandsOn area chosen rest ground → most ≡ deepest 0 ops → deepest 0 rest ≤ most
room_is area ops chosen rest ground most is stands deep = grind (arith, nat_tests, seen_deepest area ops)
