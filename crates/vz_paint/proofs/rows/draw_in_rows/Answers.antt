use Rattle.std.proofs.Common.{sym, ap, subst}
use Rattle.vz_paint.specs.Redraw.{IsRedrawn, step_of}
use Rattle.vz_paint.proofs.Redrawn.{unchanged}
use Rattle.vz_paint.proofs.rows.draw_in_rows.Goals as goal

pub returns-in-Fill : goal.returns-in-Fill
returns-in-Fill c =
    let a = c.args in
    let n = a.lines in
    subst (λ o. IsRedrawn n.width n.left n.wide n.count (step_of a.start o) a.pixels.now c.fill_rows.new.pixels) (sym c.in-Fill.is) c.fill_rows.ensures

pub returns-in-Blit : goal.returns-in-Blit
returns-in-Blit c =
    let a = c.args in
    let n = a.lines in
    subst (λ o. IsRedrawn n.width n.left n.wide n.count (step_of a.start o) a.pixels.now c.blit_rows.new.pixels) (sym c.in-Blit.is) c.blit_rows.ensures

pub returns-in-Push : goal.returns-in-Push
returns-in-Push c =
    let a = c.args in
    let n = a.lines in
    unchanged n.width n.left n.wide n.count (step_of a.start a.op.now) a.pixels.now (λ r i low near d. ap (λ o. step_of a.start o r i d) c.in-Push.is)

pub returns-in-Pop : goal.returns-in-Pop
returns-in-Pop c =
    let a = c.args in
    let n = a.lines in
    unchanged n.width n.left n.wide n.count (step_of a.start a.op.now) a.pixels.now (λ r i low near d. ap (λ o. step_of a.start o r i d) c.in-Pop.is)
