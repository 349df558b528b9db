-- Bands of rows behind those that are drawn.
use Rattle.std.proofs.Common.{◌≡◌, ℕ, ◌+◌, ◌-◌, ◌*◌, ◌≤◌, ◌<◌, ℤ, pos, nat_abs, ◌+ℤ◌, List, length, take, drop, map, refl, ap, subst, ◌∙◌, arith, Bor}
use Rattle.std.proofs.lemmas.Int.{ints}
use Rattle.vz_geom.specs.{declared.Point.Point, Rectangle.Rectangle}
use Rattle.vz_geom.proofs.Numbers.{given, stays}
use Rattle.vz_pixels.specs.Colour.{Colour}
use Rattle.vz_buffers.specs.Bands.{FitsIn, rows_put, rows_from}
use Rattle.vz_flat.specs.declared.op.Op.{Op}
use Rattle.vz_paint.specs.{declared.brush.Sheet.Sheet, Strips.IsArea, Strips.strip_of, Redraw.AreLines, Redraw.rows_of, Alike.AreRowsAlike}
use Rattle.vz_paint.proofs.{Bands_drawn.wide_is, Bands_drawn.same_rows, Bands_drawn.rows_same, Bands_drawn.band_lines}
use Rattle.vz_paint.proofs.{Rows_behind.rows_more, Rows_behind.band_part, Same_rows.row_like}

-- what is asked of a band
pub lines_behind : (area : Rectangle) (start : Point) (width left wide count from d n : ℕ) (px : List Colour) → IsArea area → left + wide ≤ width → width ≤ 2048 → from + count ≤ 2048 → from + count ≤ nat_abs area.h → length px ≡ count * width → d + n ≤ count
    → start.x ≡ area.x → start.y ≡ area.y +ℤ pos (from + d) → AreLines start width left wide n (take (n * width) (drop (d * width) px))
lines_behind area start width left wide count from d n px on inside small few upto all more at_x at_y =
    let a : ℕ = d * width + 0 in
    let b : ℕ = (d + n) * width + 0 in
    let given : AreLines start width left wide n (take (b - a) (drop a px)) = band_lines area start width left wide count from d n a b px on inside small few upto all more at_x at_y refl refl in
    subst (AreLines start width left wide n) (band_part width d n a b px refl refl) given

-- the strip that a brush draws
module _ (ops then_ops : List (Bor Op)) (sheet then_sheet : Sheet) (start : Point) (width left wide from d : ℕ) (before px : List Colour) (of_ops : then_ops ≡ ops) (on : then_sheet ≡ sheet)
    (fits : FitsIn width left wide (strip_of (map (λ r. r.now) ops) sheet.ground sheet.area)) (at_x : start.x ≡ sheet.area.x) (at_y : start.y ≡ sheet.area.y +ℤ pos (from + d))
    (so_far : px ≡ rows_put width left (rows_from from (strip_of (map (λ r. r.now) ops) sheet.ground sheet.area).row) d before) where
  row : ℕ → List Colour
  row = rows_from from (strip_of (map (λ r. r.now) ops) sheet.ground sheet.area).row

  -- a band more was drawn
  pub band_drawn : (n : ℕ) (new : List Colour) → new ≡ rows_put width (d * width + left) (rows_of (map (λ r. r.now) then_ops) then_sheet.ground start wide) n px
      → new ≡ rows_put width left (rows_from from (strip_of (map (λ r. r.now) ops) sheet.ground sheet.area).row) (d + n) before
  unfolding row rows_put
  band_drawn n new is =
      let same = rows_same ops then_ops sheet then_sheet start wide of_ops on
      ∙ same_rows (map (λ r. r.now) ops) sheet.ground sheet.area start wide from d at_x at_y (wide_is (map (λ r. r.now) ops) sheet.ground sheet.area width left wide fits) in
      is
      ∙ (ap (λ f. rows_put width (d * width + left) f n px) same
      ∙ (ap (rows_put width (d * width + left) (rows_from d row) n) so_far ∙ rows_more width left d n row before))

  -- one row was drawn, and copied to those that are like it
  pub row_drawn : (n : ℕ) (one new : List Colour) → AreRowsAlike (map (λ r. r.now) then_ops) start.y n → one ≡ rows_put width (d * width + left) (rows_of (map (λ r. r.now) then_ops) then_sheet.ground start wide) 1 px
      → ((f : ℕ → List Colour) (b : List Colour) → ((k : ℕ) → length (f k) ≡ wide) → length b ≡ length one → ((j : ℕ) → j < n → f (d + j) ≡ f d) → one ≡ rows_put width left f (d + 1) b → new ≡ rows_put width left f (d + n) b)
      → length before ≡ length one
      → new ≡ rows_put width left (rows_from from (strip_of (map (λ r. r.now) ops) sheet.ground sheet.area).row) (d + n) before
  unfolding row
  row_drawn n one new alike is repeated long =
      repeated row before (λ k. fits.each (from + k)) long
      (row_like (map (λ r. r.now) ops) sheet.ground sheet.area start.y from d n (subst (λ o. AreRowsAlike (map (λ r. r.now) o) start.y n) of_ops alike) at_y)
      (band_drawn 1 one is)

-- a row of a display is told as it is
pub row_given : (ops : List Op) (area : Rectangle) (y : ℤ) (from d count n : ℕ) → IsArea area → y ≡ area.y +ℤ pos (from + d) → from + count ≤ 2048 → from + count ≤ nat_abs area.h → d < count → AreRowsAlike ops (given y) n → AreRowsAlike ops y n
row_given ops area y from d count n on is few upto low alike =
    let top = on.top in
    let bottom = on.bottom in
    subst (λ z. AreRowsAlike ops z n) (stays y (omega (arith, ints, top, is)) (omega (arith, ints, bottom, is, upto, low))) alike
