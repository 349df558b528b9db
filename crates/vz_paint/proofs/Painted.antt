-- A row of colours is the part of a picture in the row of an area.
use Rattle.std.proofs.Common.{◌≡◌, ℕ, zero, suc, ◌+◌, ◌*◌, ◌≤◌, ◌<◌, pos, nat_abs, ◌+ℤ◌, ◌≤ℤ◌, false, List, length, take, drop, map, get_or, refl, sym, ap, ◌∙◌, mul_comm, arith}
use Rattle.std.proofs.{lemmas.Int.ints, Math.Nat.mul-le-mul_right}
use Rattle.std.specs.List.{range_with_len}
use Rattle.std.proofs.{lemmas.List.FromFn.length-map-range_with_len, lemmas.List.FromFn.get_or-map-range_with_len, lemmas.Bool.Decides.nat_tests}
use Rattle.std.proofs.lemmas.List.{ext_get_or, length-map, get_or-take, get_or-drop, length-take-le, length-drop}
use Rattle.vz_geom.specs.{declared.Point.Point, declared.Size.Size, Display.IsDisplaySize}
use Rattle.vz_geom.specs.Rectangle.{Rectangle, IsRectangle, points_of, sized, area_of, is_empty_rect}
use Rattle.vz_pixels.specs.Colour.{Colour, transparent}
use Rattle.vz_buffers.specs.{Canvas.pixel_count, Canvas.pixel_place, Canvas.span_put, Bands.rows_put}
use Rattle.vz_rules.specs.Frames.{patched}
use Rattle.vz_machine.specs.Pictured.{IsInside, row_of, first_rows}
use Rattle.vz_machine.proofs.{Whole.nothing_counted, Spans.place_fits, Spans.row_painted}
use Rattle.vz_machine.proofs.{Points.point, Points.points_at, Points.length_points, Points.map_at, Rows.rows_begin, Rows.rows_step, Rows.rows_long}
use Rattle.vz_flat.specs.{declared.op.Op.Op, Ops.value}
use Rattle.vz_paint.specs.{Row.right_of, Row.place_in, Strips.strip_of}

-- a colour for each point of a display
pub all_points : (size : Size) (colour : Point → Colour) → length (map colour (points_of size)) ≡ pixel_count size
all_points size colour = length-map (points_of size) colour ∙ (length_points size ∙ mul_comm (nat_abs size.h) (nat_abs size.w))

-- the colour of a place of an area's row
colour_at : (size : Size) (area : Rectangle) (below i : ℕ) (colour : Point → Colour) → IsDisplaySize size → IsInside (sized size) area → below < nat_abs area.h → i < nat_abs area.w
    → get_or (map colour (points_of size)) (pixel_place size area.x (area.y +ℤ pos below) + i) transparent ≡ colour (record { x = area.x +ℤ pos i; y = area.y +ℤ pos below })
colour_at size area below i colour sides inside low less =
    let left = inside.left in
    let right = inside.right in
    let top = inside.top in
    let bottom = inside.bottom in
    let wide = inside.wide in
    let high = inside.high in
    let x = nat_abs area.x in
    let y = nat_abs (area.y +ℤ pos below) in
    let p0 : Point = point 0 0 in
    let across : x + i < nat_abs size.w = omega (arith, ints, left, right, wide, less) in
    let down : y < nat_abs size.h = omega (arith, ints, top, bottom, high, low) in
    let same : (y * nat_abs size.w + x) + i ≡ y * nat_abs size.w + (x + i) = grind arith in
    let fits : y * nat_abs size.w + (x + i) < length (points_of size) =
    place_low size (x + i) y across down
    in
    let at_x : pos (x + i) ≡ area.x +ℤ pos i = omega (arith, ints, left) in
    let at_y : pos y ≡ area.y +ℤ pos below = omega (arith, ints, top) in
    ap (λ n. get_or (map colour (points_of size)) n transparent) same
    ∙ (map_at colour (points_of size) (y * nat_abs size.w + (x + i)) p0 transparent fits
    ∙ (ap colour (points_at size (x + i) y p0 across down)
    ∙ (ap (λ z. colour (record { x = z; y = pos y })) at_x ∙ ap (λ z. colour (record { x = area.x +ℤ pos i; y = z })) at_y)))
  where
    place_low : (size : Size) (a b : ℕ) → a < nat_abs size.w → b < nat_abs size.h → b * nat_abs size.w + a < length (points_of size)
    place_low size a b across down =
        let long = length_points size in
        let upto : (b + 1) * nat_abs size.w ≤ nat_abs size.h * nat_abs size.w = mul-le-mul_right (nat_abs size.w) (omega (arith, down)) in
        let next : (b + 1) * nat_abs size.w ≡ b * nat_abs size.w + nat_abs size.w = grind arith in
        omega (arith, long, upto, next, across)

-- a row that has the colours of its points is the part of the picture
pub row_is : (size : Size) (area : Rectangle) (below : ℕ) (start : Point) (colour value : Point → Colour) (row : List Colour) → IsDisplaySize size → IsInside (sized size) area → below < nat_abs area.h
    → start.x ≡ area.x → start.y ≡ area.y +ℤ pos below → length row ≡ nat_abs area.w
    → ((i : ℕ) → i < nat_abs area.w → get_or row i transparent ≡ value (right_of start i))
    → ((i : ℕ) → i < nat_abs area.w → value (place_in area i below) ≡ colour (place_in area i below))
    → row ≡ take (nat_abs area.w) (drop (pixel_place size area.x (area.y +ℤ pos below)) (map colour (points_of size)))
row_is size area below start colour value row sides inside low at_x at_y long each same =
    let news = map colour (points_of size) in
    let place = pixel_place size area.x (area.y +ℤ pos below) in
    let fits = place_fits size area below news sides inside low (all_points size colour) in
    let behind = length-drop place news in
    let part : length (take (nat_abs area.w) (drop place news)) ≡ nat_abs area.w = length-take-le (nat_abs area.w) (drop place news) (omega (arith, fits, behind)) in
    ext_get_or transparent row (take (nat_abs area.w) (drop place news)) (long ∙ sym part) (λ i less. by_place i (omega (arith, long, less)))
  where
    by_place : (i : ℕ) → i < nat_abs area.w → get_or row i transparent ≡ get_or (take (nat_abs area.w) (drop (pixel_place size area.x (area.y +ℤ pos below)) (map colour (points_of size)))) i transparent
    by_place i less =
        let news = map colour (points_of size) in
        let place = pixel_place size area.x (area.y +ℤ pos below) in
        each i less
        ∙ (ap (λ z. value (record { x = z +ℤ pos i; y = start.y })) at_x
        ∙ (ap (λ z. value (record { x = area.x +ℤ pos i; y = z })) at_y
        ∙ (same i less
        ∙ (sym (colour_at size area below i colour sides inside low less)
        ∙ (sym (get_or-drop place news i transparent) ∙ sym (get_or-take (nat_abs area.w) (drop place news) i transparent less))))))

-- the place of a row among the pixels
place_is : (size : Size) (area : Rectangle) (k : ℕ) → pos 0 ≤ℤ area.y → k * nat_abs size.w + pixel_place size area.x area.y ≡ pixel_place size area.x (area.y +ℤ pos k)
place_is size area k top =
    let down : nat_abs (area.y +ℤ pos k) ≡ nat_abs area.y + k = omega (arith, ints, top) in
    let turned : k * nat_abs size.w + (nat_abs area.y * nat_abs size.w + nat_abs area.x) ≡ (nat_abs area.y + k) * nat_abs size.w + nat_abs area.x = grind arith in
    turned ∙ ap (λ n. n * nat_abs size.w + nat_abs area.x) (sym down)

-- the first so many rows are painted
pub rows_painted : (size : Size) (area : Rectangle) (count : ℕ) (ops : List Op) (ground : Colour) (colour : Point → Colour) (olds : List Colour) → IsDisplaySize size → IsInside (sized size) area → count ≤ nat_abs area.h
    → length olds ≡ pixel_count size → ((k i : ℕ) → k < count → i < nat_abs area.w → value ops (place_in area i k) ground ≡ colour (place_in area i k))
    → rows_put (nat_abs size.w) (pixel_place size area.x area.y) (strip_of ops ground area).row count olds ≡ patched (first_rows area count) (points_of size) (map colour (points_of size)) olds
unfolding rows_put
rows_painted size area zero ops ground colour olds sides inside few all same = rows_begin size area (map colour (points_of size)) olds (all_points size colour) all
rows_painted size area (suc k) ops ground colour olds sides inside few all same =
    let news = map colour (points_of size) in
    let now = rows_put (nat_abs size.w) (pixel_place size area.x area.y) (strip_of ops ground area).row k olds in
    let before = rows_painted size area k ops ground colour olds sides inside (omega (arith, few)) all (λ j i low less. same j i (omega (arith, low)) less) in
    let long : length now ≡ pixel_count size = rows_long size (first_rows area k) news olds now (all_points size colour) all before in
    let f = λ (i : ℕ). value ops (place_in area i k) ground in
    let start : Point = record { x = area.x; y = area.y +ℤ pos k } in
    let row : List Colour = map f (range_with_len 0 (nat_abs area.w)) in
    let row_long : length row ≡ nat_abs area.w = length-map-range_with_len f 0 (nat_abs area.w) in
    let part = row_is size area k start colour (λ p. value ops p ground) row sides inside (omega (arith, few)) refl refl row_long
    (λ i less. get_or-map-range_with_len f 0 (nat_abs area.w) i i transparent less (omega arith)) (λ i less. same k i (omega arith) less) in
    let one : span_put now (k * nat_abs size.w + pixel_place size area.x area.y) row ≡ patched (row_of area k) (points_of size) news now =
    ap (λ n. span_put now n row) (place_is size area k inside.top)
    ∙ (ap (span_put now (pixel_place size area.x (area.y +ℤ pos k))) part ∙ row_painted size area k news now sides inside (omega (arith, few)) (all_points size colour) long) in
    let next : k + 1 ≡ suc k = omega arith in
    rows_step size area k news olds now (span_put now (k * nat_abs size.w + pixel_place size area.x area.y) row) (all_points size colour) all before one ∙ ap (λ n. patched (first_rows area n) (points_of size) news olds) next

-- an area that is worth a second thread has a point
pub full_area : (area : Rectangle) (threads pixels : ℕ) → IsRectangle area → 1 ≤ threads → (threads ≡ 1 → ⊥) → (1 < threads → 1 ≤ pixels) → pixels ≡ area_of area → is_empty_rect area ≡ false
full_area area threads pixels is some more worth many = grind (arith, nat_tests, nothing_counted area is)
