use Rattle.std.proofs.Common.{◌<◌, ◌≤◌, arith}
use Rattle.vz_flat.specs.declared.op.Op.TheVariants.{Fill}
use Rattle.vz_paint.specs.Redraw.{step_of}
use Rattle.vz_paint.proofs.{Redrawn.rows_begin, Redrawn.rows_end, Patches.tint_next, Patches.laid_none}
use Rattle.vz_paint.proofs.rows.fill_rows.Goals as goal

pub loop-k-init : goal.loop-k-init
loop-k-init c =
    let a = c.args in
    let n = a.lines in
    rows_begin n.width n.left n.wide n.count c.patch_of-here.result.top (step_of a.start (Fill a.area.now a.color a.opacity a.mode)) a.pixels.now
    (λ r i low near d. laid_none a.start a.area.now (λ r i. a.color) a.opacity a.mode r i d (c.patch_of-here.ensures.above r i low))

pub loop-k-preserved : goal.loop-k-preserved
loop-k-preserved c =
    let a = c.args in
    let n = a.lines in
    let l = c.loop-k in
    let e = c.patch_of-here.ensures in
    let here = c.patch_of-here.result in
    let down = e.down in
    let under : l.k < here.bottom = c.loop-k-test.true in
    let low : l.k < n.count = omega (arith, down, under) in
    tint_next n.width n.left n.wide n.count here.top l.k c.place-at.result here.from here.to a.start a.area.now a.color c.shade-own.result a.opacity a.mode a.pixels.now l.pixels c.tint.new.row l.invariant
    low e.ordered e.most c.requires.inside c.requires.long c.place-at.ensures.value (λ i near. e.exact l.k i low l.invariant.least under near) c.shade-own.ensures c.tint.ensures

pub returns : goal.returns
returns c =
    let a = c.args in
    let n = a.lines in
    let l = c.loop-k in
    let e = c.patch_of-here.ensures in
    let done : c.patch_of-here.result.bottom ≤ l.k = c.loop-k-test.false in
    rows_end n.width n.left n.wide n.count c.patch_of-here.result.top l.k (step_of a.start (Fill a.area.now a.color a.opacity a.mode)) a.pixels.now l.pixels l.invariant
    (λ r i low more near d. laid_none a.start a.area.now (λ r i. a.color) a.opacity a.mode r i d (e.under r i low (omega (arith, done, more))))
