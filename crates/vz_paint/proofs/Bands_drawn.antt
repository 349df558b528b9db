-- What a brush draws in some rows.
use Rattle.std.proofs.Common.{◌≡◌, ℕ, ◌+◌, ◌-◌, ◌*◌, ◌≤◌, pos, nat_abs, ◌+ℤ◌, List, length, take, drop, map, sym, ap, ◌∙◌, arith, Bor}
use Rattle.std.proofs.{lemmas.Int.ints, Math.Nat.mul-le-mul_right, lemmas.Bool.Decides.nat_tests}
use borrow.Rule.Slice.PartMut.{put_mid}
use Rattle.vz_geom.specs.{declared.Point.Point, Rectangle.Rectangle}
use Rattle.vz_pixels.specs.Colour.{Colour}
use Rattle.vz_frame.proofs.Parts.{length_part, length_replaced}
use Rattle.vz_buffers.specs.Bands.{FitsIn, rows_put, rows_from}
use Rattle.vz_flat.specs.declared.op.Op.{Op}
use Rattle.vz_paint.specs.{declared.group.OpenGroup.OpenGroup, Strips.IsArea, Strips.IsBrush, Strips.strip_of, Redraw.AreLines, Redraw.rows_of}
use Rattle.vz_paint.specs.{Stack.HavePixels, declared.brush.Sheet.Sheet}
use Rattle.vz_paint.proofs.{Brushing.start_is, Brushing.row_long, Redrawn.band_put}

-- the rows are as wide as the area
pub wide_is : (ops : List Op) (ground : Colour) (area : Rectangle) (width left wide : ℕ) → FitsIn width left wide (strip_of ops ground area) → wide ≡ nat_abs area.w
wide_is ops ground area width left wide fits = sym (fits.each 0) ∙ row_long ops ground area 0

-- brushes for the same operations on the same sheet draw the same rows
pub strip_same : (ops then_ops : List (Bor Op)) (sheet then_sheet : Sheet) → then_ops ≡ ops → then_sheet ≡ sheet
    → strip_of (map (λ r. r.now) then_ops) then_sheet.ground then_sheet.area ≡ strip_of (map (λ r. r.now) ops) sheet.ground sheet.area
strip_same ops then_ops sheet then_sheet of_ops on = grind (arith, nat_tests)

pub rows_same : (ops then_ops : List (Bor Op)) (sheet then_sheet : Sheet) (start : Point) (wide : ℕ) → then_ops ≡ ops → then_sheet ≡ sheet
    → rows_of (map (λ r. r.now) then_ops) then_sheet.ground start wide ≡ rows_of (map (λ r. r.now) ops) sheet.ground start wide
rows_same ops then_ops sheet then_sheet start wide of_ops on = grind (arith, nat_tests)

-- the rows from a point on are those of the strip
pub same_rows : (ops : List Op) (ground : Colour) (area : Rectangle) (start : Point) (wide from d : ℕ) → start.x ≡ area.x → start.y ≡ area.y +ℤ pos (from + d) → wide ≡ nat_abs area.w
    → rows_of ops ground start wide ≡ rows_from d (rows_from from (strip_of ops ground area).row)
same_rows ops ground area start wide from d at_x at_y wide_at = grind (arith, nat_tests, ints)

-- where a band stands
band_fits : (width d n count long a b : ℕ) → d + n ≤ count → long ≡ count * width → a ≡ d * width + 0 → b ≡ (d + n) * width + 0 → (a ≤ b) × (b ≤ long) × (b - a ≡ n * width)
band_fits width d n count long a b few all a_is b_is = grind (arith, nat_tests, mul-le-mul_right width few)

pub band_lines : (area : Rectangle) (start : Point) (width left wide count from d n a b : ℕ) (px : List Colour) → IsArea area → left + wide ≤ width → width ≤ 2048 → from + count ≤ 2048 → from + count ≤ nat_abs area.h → length px ≡ count * width → d + n ≤ count
    → start.x ≡ area.x → start.y ≡ area.y +ℤ pos (from + d) → a ≡ d * width + 0 → b ≡ (d + n) * width + 0 → AreLines start width left wide n (take (b - a) (drop a px))
band_lines area start width left wide count from d n a b px on inside small few upto all more at_x at_y a_is b_is = grind (arith, nat_tests, band_fits, start_is, ints, length_part)

-- a band more is drawn
pub band_next : (ops : List Op) (ground : Colour) (area : Rectangle) (start : Point) (width left wide count from d n a b : ℕ) (before px new : List Colour) → FitsIn width left wide (strip_of ops ground area) → length before ≡ count * width → d + n ≤ count
    → px ≡ rows_put width left (rows_from from (strip_of ops ground area).row) d before → start.x ≡ area.x → start.y ≡ area.y +ℤ pos (from + d) → a ≡ d * width + 0 → b ≡ (d + n) * width + 0
    → new ≡ rows_put width left (rows_of ops ground start wide) n (take (b - a) (drop a px))
    → put_mid a (b - a) px new ≡ rows_put width left (rows_from from (strip_of ops ground area).row) (d + n) before
band_next ops ground area start width left wide count from d n a b before px new fits all few is at_x at_y a_is b_is drawn =
    band_put width left wide d n count a b (rows_from from (strip_of ops ground area).row) before px new (λ k. fits.each (from + k)) fits.inside all few is (omega (arith, a_is)) (omega (arith, b_is))
    (drawn ∙ ap (λ row. rows_put width left row n (take (b - a) (drop a px))) (same_rows ops ground area start wide from d at_x at_y (wide_is ops ground area width left wide fits)))

pub band_long_stays : (width d n count a b : ℕ) (before px new : List Colour) → length before ≡ count * width → length px ≡ length before → d + n ≤ count → a ≡ d * width + 0 → b ≡ (d + n) * width + 0
    → length new ≡ length (take (b - a) (drop a px)) → length (put_mid a (b - a) px new) ≡ length before
band_long_stays width d n count a b before px new all same few a_is b_is kept = grind (arith, nat_tests, band_fits, length_replaced, length_part)

-- the groups have pixels for a band
pub band_groups : (ops : List Op) (area : Rectangle) (rows n wide : ℕ) (items lent : List OpenGroup) → IsBrush ops area rows items → lent ≡ items → n ≤ rows → wide ≡ nat_abs area.w → HavePixels (n * wide) lent
band_groups ops area rows n wide items lent able same few is = grind (arith, nat_tests, mul-le-mul_right (nat_abs area.w) few)
