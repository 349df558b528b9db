use Rattle.std.proofs.Common.{◌+◌, ◌-◌, ◌*◌, ◌<◌, ◌≤◌, ◌∙◌, length, take, drop, get_or, ap, arith}
use Rattle.vz_pixels.specs.Colour.{transparent}
use Rattle.vz_paint.specs.Redraw.{lays}
use Rattle.vz_paint.proofs.{Redrawn.rows_begin, Redrawn.rows_end, Patches.mix_next, Patches.laid_none, Grouped.group_part, Grouped.group_colour}
use Rattle.vz_paint.proofs.rows.lay_rows.Goals as goal

pub loop-k-init : goal.loop-k-init
loop-k-init c =
    let a = c.args in
    let n = a.lines in
    let g = a.group.now in
    rows_begin n.width n.left n.wide n.count c.patch_of-here.result.top (lays a.start n.wide g) a.pixels.now
    (λ r i low near d. laid_none a.start g.area (λ r i. get_or g.pixels.items (r * n.wide + i) transparent) g.opacity g.mode r i d (c.patch_of-here.ensures.above r i low))

pub loop-k-preserved : goal.loop-k-preserved
loop-k-preserved c =
    let a = c.args in
    let n = a.lines in
    let g = a.group.now in
    let l = c.loop-k in
    let e = c.patch_of-here.ensures in
    let here = c.patch_of-here.result in
    let down = e.down in
    let under : l.k < here.bottom = c.loop-k-test.true in
    let low : l.k < n.count = omega (arith, down, under) in
    let part = group_part n.wide n.count l.k c.place-own.result here.from here.to g.pixels.items c.requires.whole low e.ordered e.most c.place-own.ensures.value in
    mix_next n.width n.left n.wide n.count here.top l.k c.place-at.result here.from here.to a.start g.area (λ r i. get_or g.pixels.items (r * n.wide + i) transparent) g.opacity g.mode _ a.pixels.now l.pixels c.mix.new.row l.invariant
    low e.ordered e.most c.requires.lines.inside c.requires.lines.long c.place-at.ensures.value (λ i near. e.exact l.k i low l.invariant.least under near)
    (ap (λ l. length (take ((c.place-own.result + here.to) - (c.place-own.result + here.from)) (drop (c.place-own.result + here.from) l))) c.deref.ensures.value ∙ part)
    (λ i least near. ap (λ l. get_or (take ((c.place-own.result + here.to) - (c.place-own.result + here.from)) (drop (c.place-own.result + here.from) l)) (i - here.from) transparent) c.deref.ensures.value
    ∙ group_colour n.wide n.count l.k c.place-own.result here.from here.to g.pixels.items c.requires.whole low e.ordered e.most c.place-own.ensures.value i least near)
    c.mix.ensures

pub returns : goal.returns
returns c =
    let a = c.args in
    let n = a.lines in
    let g = a.group.now in
    let l = c.loop-k in
    let e = c.patch_of-here.ensures in
    let done : c.patch_of-here.result.bottom ≤ l.k = c.loop-k-test.false in
    rows_end n.width n.left n.wide n.count c.patch_of-here.result.top l.k (lays a.start n.wide g) a.pixels.now l.pixels l.invariant
    (λ r i low more near d. laid_none a.start g.area (λ r i. get_or g.pixels.items (r * n.wide + i) transparent) g.opacity g.mode r i d (e.under r i low (omega (arith, done, more))))
