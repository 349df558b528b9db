use Rattle.std.proofs.Common.{◌≡◌, ◌+◌, ◌≤◌, pos, nat_abs, ◌+ℤ◌, map, refl, sym, ap, subst, ◌∙◌, arith}
use Rattle.vz_buffers.proofs.Banding.{band_begins}
use Rattle.vz_buffers.specs.Bands.{rows_put, rows_from}
use Rattle.vz_paint.specs.{Strips.strip_of, declared.brush.Sheet.Sheet}
use Rattle.vz_paint.proofs.{Bands_drawn.wide_is, Bands_of_rows.lines_behind, Bands_of_rows.band_drawn, Bands_of_rows.row_drawn, Bands_of_rows.row_given}
use Rattle.vz_paint.proofs.brush.Brush.draw_lines.Goals as goal

pub loop-done-init : goal.loop-done-init
loop-done-init c =
    let a = c.args in
    let b = a.self.now in
    let n = a.lines in
    (c.requires.able, refl, refl, omega arith, refl, band_begins n.width n.left a.from (strip_of (map (λ r. r.now) b.ops.now) b.sheet.ground b.sheet.area) a.pixels.now)

pub draw_band-requires-clause-lines : goal.draw_band-requires-clause-lines
draw_band-requires-clause-lines c =
    let a = c.args in
    let n = a.lines in
    let l = c.loop-done in
    let r = c.requires in
    let under = c.loop-done-test.true in
    lines_behind a.self.now.sheet.area c.row_start-start.result n.width n.left n.wide n.count a.from l.done 1 l.pixels r.able.stands r.fits.inside r.small r.few r.upto (l.invariant.4 ∙ r.pixels) (omega (arith, under))
    (c.row_start-start.ensures.x ∙ ap (λ (s : Sheet). s.area.x) l.invariant.2) (c.row_start-start.ensures.y ∙ ap (λ (s : Sheet). s.area.y +ℤ pos (a.from + l.done)) l.invariant.2)

pub draw_band-requires-clause-wide : goal.draw_band-requires-clause-wide
draw_band-requires-clause-wide c =
    let b = c.args.self.now in
    let n = c.args.lines in
    wide_is (map (λ r. r.now) b.ops.now) b.sheet.ground b.sheet.area n.width n.left n.wide c.requires.fits ∙ ap (λ (s : Sheet). nat_abs s.area.w) (sym c.loop-done.invariant.2)

pub loop-done-preserved-then-is_worth_copying : goal.loop-done-preserved-then-is_worth_copying
loop-done-preserved-then-is_worth_copying c =
    let a = c.args in
    let b = a.self.now in
    let n = a.lines in
    let l = c.loop-done in
    let e = c.draw_band.ensures in
    let most = c.rows_alike-alike.ensures.most in
    let under = l.invariant.3 in (
      e.able,
      e.ops ∙ l.invariant.1,
      e.sheet ∙ l.invariant.2,
      omega (arith, most, under),
      c.repeat_row.ensures.long ∙ (e.long ∙ l.invariant.4),
      row_drawn b.ops.now l.self.ops.now b.sheet l.self.sheet c.row_start-start.result n.width n.left n.wide a.from l.done a.pixels.now l.pixels l.invariant.1 l.invariant.2 c.requires.fits
          (c.row_start-start.ensures.x ∙ ap (λ (s : Sheet). s.area.x) l.invariant.2) (c.row_start-start.ensures.y ∙ ap (λ (s : Sheet). s.area.y +ℤ pos (a.from + l.done)) l.invariant.2) l.invariant.5
          c.rows_alike-alike.result c.draw_band.new.pixels c.repeat_row.new.pixels
          (row_given (map (λ r. r.now) l.self.ops.now) b.sheet.area c.row_start-start.result.y a.from l.done n.count c.rows_alike-alike.result c.requires.able.stands
          (c.row_start-start.ensures.y ∙ ap (λ (s : Sheet). s.area.y +ℤ pos (a.from + l.done)) l.invariant.2) c.requires.few c.requires.upto c.loop-done-test.true c.rows_alike-alike.ensures.alike) e.painted c.repeat_row.ensures.repeated (sym (e.long ∙ l.invariant.4)),
    )

pub draw_band-requires-else-is_worth_copying-clause-lines : goal.draw_band-requires-else-is_worth_copying-clause-lines
draw_band-requires-else-is_worth_copying-clause-lines c =
    let a = c.args in
    let n = a.lines in
    let l = c.loop-done in
    let r = c.requires in
    let most = c.least-here.ensures.first in
    let under = l.invariant.3 in
    lines_behind a.self.now.sheet.area c.row_start-start.result n.width n.left n.wide n.count a.from l.done c.least-here.result l.pixels r.able.stands r.fits.inside r.small r.few r.upto (l.invariant.4 ∙ r.pixels) (omega (arith, most, under))
    (c.row_start-start.ensures.x ∙ ap (λ (s : Sheet). s.area.x) l.invariant.2) (c.row_start-start.ensures.y ∙ ap (λ (s : Sheet). s.area.y +ℤ pos (a.from + l.done)) l.invariant.2)

pub draw_band-requires-else-is_worth_copying-clause-wide : goal.draw_band-requires-else-is_worth_copying-clause-wide
draw_band-requires-else-is_worth_copying-clause-wide c =
    let b = c.args.self.now in
    let n = c.args.lines in
    wide_is (map (λ r. r.now) b.ops.now) b.sheet.ground b.sheet.area n.width n.left n.wide c.requires.fits ∙ ap (λ (s : Sheet). nat_abs s.area.w) (sym c.loop-done.invariant.2)

pub loop-done-preserved : goal.loop-done-preserved
loop-done-preserved c =
    let a = c.args in
    let b = a.self.now in
    let n = a.lines in
    let l = c.loop-done in
    let e = c.draw_band-else-is_worth_copying.ensures in
    let most = c.least-here.ensures.first in
    let under = l.invariant.3 in (
      e.able,
      e.ops ∙ l.invariant.1,
      e.sheet ∙ l.invariant.2,
      omega (arith, most, under),
      e.long ∙ l.invariant.4,
      band_drawn b.ops.now l.self.ops.now b.sheet l.self.sheet c.row_start-start.result n.width n.left n.wide a.from l.done a.pixels.now l.pixels l.invariant.1 l.invariant.2 c.requires.fits
          (c.row_start-start.ensures.x ∙ ap (λ (s : Sheet). s.area.x) l.invariant.2) (c.row_start-start.ensures.y ∙ ap (λ (s : Sheet). s.area.y +ℤ pos (a.from + l.done)) l.invariant.2) l.invariant.5
          c.least-here.result c.draw_band-else-is_worth_copying.new.pixels e.painted,
    )

pub returns-clause-able : goal.returns-clause-able
returns-clause-able c = c.loop-done.invariant.0

pub returns-clause-painted : goal.returns-clause-painted
returns-clause-painted c =
    let a = c.args in
    let b = a.self.now in
    let l = c.loop-done in
    let n = a.lines in
    let most = l.invariant.3 in
    let done : n.count ≤ l.done = c.loop-done-test.false in
    let all : l.done ≡ n.count = omega (arith, most, done) in
    subst (λ k. l.pixels ≡ rows_put n.width n.left (rows_from a.from (strip_of (map (λ r. r.now) b.ops.now) b.sheet.ground b.sheet.area).row) k a.pixels.now) all l.invariant.5
