use Rattle.std.proofs.Common.{◌≤◌, length, take, subst, sym}
use Rattle.vz_paint.specs.{declared.rows.Lines.Lines, Redraw.AreLines, Redraw.IsRedrawn, Redraw.lays}
use Rattle.vz_paint.proofs.Grouped.{still_long, drawn_inside}
use Rattle.vz_paint.proofs.drawing.lay_in_group.Goals as goal

pub lay_rows-requires-clause-lines : goal.lay_rows-requires-clause-lines
lay_rows-requires-clause-lines c =
    let a = c.args in
    subst (λ (l : Lines). AreLines a.start l.width l.left l.wide l.count (take c.count_in_group-count.result a.pixels.now)) (sym c.in_group.ensures)
    (subst (λ n. AreLines a.start a.lines.wide 0 a.lines.wide a.lines.count (take n a.pixels.now)) (sym c.count_in_group-count.ensures) c.requires.lines)

pub returns-clause-long : goal.returns-clause-long
returns-clause-long c =
    let a = c.args in
    still_long a.pixels.now c.lay_rows.new.pixels c.count_in_group-count.result (subst (λ n. n ≤ length a.pixels.now) (sym c.count_in_group-count.ensures) c.requires.whole) c.lay_rows.ensures.long

pub returns-clause-each : goal.returns-clause-each
returns-clause-each c =
    let a = c.args in
    drawn_inside a.lines.wide a.lines.count c.count_in_group-count.result (lays a.start a.lines.wide a.inner.now) a.pixels.now c.lay_rows.new.pixels c.count_in_group-count.ensures
    (subst (λ n. n ≤ length a.pixels.now) (sym c.count_in_group-count.ensures) c.requires.whole)
    (subst (λ (l : Lines). IsRedrawn l.width l.left l.wide l.count (lays a.start l.wide a.inner.now) (take c.count_in_group-count.result a.pixels.now) c.lay_rows.new.pixels) c.in_group.ensures c.lay_rows.ensures)
