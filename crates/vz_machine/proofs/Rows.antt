-- The rows of an area, one after the other.
use Rattle.std.proofs.Common.{◌≡◌, ℕ, ◌+◌, ◌*◌, ◌<◌, ℤ, pos, nat_abs, ◌+ℤ◌, ◌≤ℤ◌, ◌<ℤ◌, Bool, true, false, ◌||◌, mul_comm, List, length, take, drop, refl, sym, ap, ◌∙◌, arith}
use Rattle.std.proofs.{lemmas.Int.ints, lemmas.Int.unsigned_abs-mul, lemmas.Bool.Decides.nat_tests}
use Rattle.vz_geom.specs.{declared.Size.Size, declared.Point.Point, Display.IsDisplaySize}
use Rattle.std.specs.Prelude.{int_lt}
use Rattle.vz_geom.specs.Rectangle.{Rectangle, has, points_of, sized, area_of}
use Rattle.vz_geom.proofs.{Sets.IsIn, Sets.to_in, Sets.of_in, Sets.lt_true, Numbers.given, Numbers.stays}
use Rattle.vz_pixels.specs.Colour.{Colour}
use Rattle.vz_buffers.specs.Canvas.{pixel_count, pixel_place, span_put}
use Rattle.vz_rules.specs.Frames.{patched}
use Rattle.vz_machine.specs.Pictured.{IsInside, row_of, first_rows}
use Rattle.vz_machine.proofs.Points.{length_points, patched_none, patched_twice, length_patched}
use Rattle.vz_machine.proofs.Spans.{same_tests, row_painted}

-- a number of a display is given as it is
pub column_given : (size : Size) (area : Rectangle) (x : ℤ) → IsDisplaySize size → IsInside (sized size) area → x ≡ area.x → given x ≡ area.x
column_given size area x sides inside is = grind (arith, nat_tests, stays x, ints)

pub line_given : (size : Size) (area : Rectangle) (below : ℕ) (y : ℤ) → IsDisplaySize size → IsInside (sized size) area → below < nat_abs area.h → y ≡ area.y +ℤ pos below → given y ≡ area.y +ℤ pos below
line_given size area below y sides inside low is = grind (arith, nat_tests, stays y, ints)

-- where a row begins
pub from_is : (size : Size) (area : Rectangle) (below : ℕ) (x y : ℤ) (from : ℕ) → IsDisplaySize size → IsInside (sized size) area → below < nat_abs area.h → x ≡ area.x → y ≡ area.y +ℤ pos below
    → from ≡ pixel_place size (given x) (given y) → from ≡ pixel_place size area.x (area.y +ℤ pos below)
from_is size area below x y from sides inside low x_is y_is is = grind (arith, nat_tests, given y, column_given size area x sides inside x_is, line_given size area below y sides inside low y_is)

-- a row of an area fits into the buffer
pub row_fits : (size canvas : Size) (area : Rectangle) (x : ℤ) (n : ℕ) → IsDisplaySize size → IsInside (sized size) area → x ≡ area.x → n ≡ nat_abs area.w → canvas ≡ size
    → (given x +ℤ pos n) ≤ℤ canvas.w
row_fits size canvas area x n sides inside x_is n_is same = grind (arith, nat_tests, column_given size area x sides inside x_is, ints)

-- no point is in no row
no_rows : (area : Rectangle) (p : Point) → has (first_rows area 0) p ≡ false
no_rows area p = grind (arith, nat_tests, to_in (first_rows area 0) p, ints)

-- the rows with one more
more_rows : (area : Rectangle) (k : ℕ) (p : Point) → has (first_rows area (k + 1)) p ≡ (has (row_of area k) p || has (first_rows area k) p)
more_rows area k p = same_tests (has (first_rows area (k + 1)) p) (has (row_of area k) p || has (first_rows area k) p) there (back (has (row_of area k) p) (has (first_rows area k) p) refl refl)
  where
    either : (t u : Bool) → (t ≡ false → u ≡ true) → (t || u) ≡ true
    either true u h = refl
    either false u h = h refl

    in_row : IsIn (first_rows area (k + 1)) p → (area.y +ℤ pos k) ≤ℤ p.y → has (row_of area k) p ≡ true
    in_row i low =
        let left = i.left in
        let right = i.right in
        let bottom = i.bottom in
        of_in (row_of area k) p (record { left = left; right = right; top = low; bottom = omega (arith, ints, bottom) })

    in_rows : IsIn (first_rows area (k + 1)) p → p.y <ℤ (area.y +ℤ pos k) → has (first_rows area k) p ≡ true
    in_rows i low = of_in (first_rows area k) p (record { left = i.left; right = i.right; top = i.top; bottom = low })

    there : has (first_rows area (k + 1)) p ≡ true → (has (row_of area k) p || has (first_rows area k) p) ≡ true
    there h =
        let i = to_in (first_rows area (k + 1)) p h in
        either (has (row_of area k) p) (has (first_rows area k) p) (λ none. in_rows i (above i none))
      where
        above : IsIn (first_rows area (k + 1)) p → has (row_of area k) p ≡ false → p.y <ℤ (area.y +ℤ pos k)
        above i none = by_test (int_lt p.y (area.y +ℤ pos k)) refl
          where
            by_test : (t : Bool) → int_lt p.y (area.y +ℤ pos k) ≡ t → p.y <ℤ (area.y +ℤ pos k)
            by_test true e = lt_true p.y (area.y +ℤ pos k) e
            by_test false e =
                let low : (area.y +ℤ pos k) ≤ℤ p.y = grind (arith, ints, e) in
                let yes' : has (row_of area k) p ≡ true = in_row i low in
                absurd (true_is_false (sym yes' ∙ none))
              where
                true_is_false : true ≡ false → ⊥
                true_is_false e = cc

    back : (t u : Bool) → has (row_of area k) p ≡ t → has (first_rows area k) p ≡ u → (t || u) ≡ true → has (first_rows area (k + 1)) p ≡ true
    back true u e f h =
        let i = to_in (row_of area k) p e in
        let top = i.top in
        let bottom = i.bottom in
        of_in (first_rows area (k + 1)) p (record { left = i.left; right = i.right; top = omega (arith, ints, top); bottom = omega (arith, ints, bottom) })
    back false true e f h =
        let i = to_in (first_rows area k) p f in
        let bottom = i.bottom in
        of_in (first_rows area (k + 1)) p (record { left = i.left; right = i.right; top = i.top; bottom = omega (arith, ints, bottom) })
    back false false e f h = absurd (cc)

-- the pixels of a display are as many as its points
as_many : (size : Size) (l : List Colour) → length l ≡ pixel_count size → length l ≡ length (points_of size)
as_many size l all = all ∙ (mul_comm (nat_abs size.w) (nat_abs size.h) ∙ sym (length_points size))

pub rows_begin : (size : Size) (area : Rectangle) (news olds : List Colour) → length news ≡ pixel_count size → length olds ≡ pixel_count size
    → olds ≡ patched (first_rows area 0) (points_of size) news olds
rows_begin size area news olds all old_all = sym (patched_none (first_rows area 0) (points_of size) news olds (as_many size news all) (as_many size olds old_all) (no_rows area))

pub rows_step : (size : Size) (area : Rectangle) (k : ℕ) (news olds now more : List Colour) → length news ≡ pixel_count size → length olds ≡ pixel_count size
    → now ≡ patched (first_rows area k) (points_of size) news olds → more ≡ patched (row_of area k) (points_of size) news now
    → more ≡ patched (first_rows area (k + 1)) (points_of size) news olds
rows_step size area k news olds now more all old_all so_far one =
    one ∙ (ap (patched (row_of area k) (points_of size) news) so_far
    ∙ patched_twice (first_rows area k) (row_of area k) (first_rows area (k + 1)) (points_of size) news olds (as_many size news all) (as_many size olds old_all) (more_rows area k))

pub rows_end : (size : Size) (area : Rectangle) (k : ℕ) (news olds now : List Colour) → pos 1 ≤ℤ area.h → k ≡ nat_abs area.h
    → now ≡ patched (first_rows area k) (points_of size) news olds → now ≡ patched area (points_of size) news olds
rows_end size area k news olds now high is so_far = grind (arith, nat_tests, ints)

pub rows_long : (size : Size) (area : Rectangle) (news olds now : List Colour) → length news ≡ pixel_count size → length olds ≡ pixel_count size
    → now ≡ patched area (points_of size) news olds → length now ≡ pixel_count size
rows_long size area news olds now all old_all is = grind (arith, nat_tests, length_patched, as_many, length_points)

pub count_step : (old start n w k more : ℕ) → old ≡ start + k * w → more ≡ old + w → more ≡ start + (k + 1) * w
count_step old start n w k more so_far is = grind (arith, nat_tests)

pub count_end : (area : Rectangle) (old start k : ℕ) → pos 1 ≤ℤ area.w → pos 1 ≤ℤ area.h → k ≡ nat_abs area.h → old ≡ start + k * nat_abs area.w → old ≡ start + area_of area
unfolding area_of
count_end area old start k wide high is so_far = grind (arith, nat_tests, unsigned_abs-mul area.w area.h)

-- a row is put
pub row_put : (size canvas : Size) (area : Rectangle) (below : ℕ) (x y : ℤ) (from count : ℕ) (news olds row after : List Colour) → IsDisplaySize size → IsInside (sized size) area → below < nat_abs area.h
    → length news ≡ pixel_count size → length olds ≡ pixel_count size → canvas ≡ size → x ≡ area.x → y ≡ area.y +ℤ pos below → from ≡ pixel_place size area.x (area.y +ℤ pos below) → count ≡ nat_abs area.w
    → row ≡ take count (drop from news) → after ≡ span_put olds (pixel_place canvas (given x) (given y)) row
    → after ≡ patched (row_of area below) (points_of size) news olds
row_put size canvas area below x y from count news olds row after sides inside low all old_all same x_is y_is from_at counted row_is put =
    let at_place : pixel_place canvas (given x) (given y) ≡ pixel_place size area.x (area.y +ℤ pos below) =
    ap (λ s. pixel_place s (given x) (given y)) same ∙ (ap (λ z. pixel_place size z (given y)) (column_given size area x sides inside x_is)
    ∙ ap (λ z. pixel_place size area.x z) (line_given size area below y sides inside low y_is)) in
    let row_at : row ≡ take (nat_abs area.w) (drop (pixel_place size area.x (area.y +ℤ pos below)) news) =
    row_is ∙ (ap (λ n. take n (drop from news)) counted ∙ ap (λ n. take (nat_abs area.w) (drop n news)) from_at) in
    put ∙ (ap (λ n. span_put olds n row) at_place ∙ (ap (span_put olds (pixel_place size area.x (area.y +ℤ pos below))) row_at
    ∙ row_painted size area below news olds sides inside low all old_all))
