use Rattle.std.proofs.Common.{◌≡◌, ◌*◌, ◌<◌, ◌≤◌, ◌∙◌, sym, ap, subst, length, map, get_or, List, Bor}
use Rattle.std.proofs.lemmas.List.{length-map, get_or-map}
use Rattle.vz_flat.specs.declared.op.Op.{Op}
use Rattle.vz_paint.proofs.Drawn.{begins, inside_next, open_next, may_next, next, ends}
use Rattle.vz_paint.proofs.drawing.draw_all.Goals as goal

pub loop-op-init : goal.loop-op-init
loop-op-init c =
    let a = c.args in
    let n = a.lines in
    let r = c.requires in
    begins a.ground a.start n.width n.left n.wide n.count (map (λ r. r.now) a.ops.now) a.pixels.now c.level_rows.new.pixels a.groups.now r.whole r.room c.level_rows.ensures

-- the operation at hand
low_in : (ops : List (Bor Op)) (k : _) → k < length ops → k < length (map (λ (r : Bor Op). r.now) ops)
low_in ops k low = subst (λ n. k < n) (sym (length-map ops (λ r. r.now))) low

at_hand : (ops : List (Bor Op)) (k : _) (d op : Bor Op) → k < length ops → op ≡ get_or ops k d → get_or (map (λ (r : Bor Op). r.now) ops) k op.now ≡ op.now
at_hand ops k d op low is = get_or-map (λ r. r.now) ops k d op.now low ∙ ap (λ r. r.now) (sym is)

pub draw-depth-requires-clause-lines : goal.draw-depth-requires-clause-lines
draw-depth-requires-clause-lines c =
    let r = c.requires.lines in
    record { begins = r.begins; top = r.top; bottom = r.bottom; inside = r.inside; small = r.small; few = r.few; long = c.loop-op.invariant.long ∙ r.long }

pub draw-depth-requires-clause-groups : goal.draw-depth-requires-clause-groups
draw-depth-requires-clause-groups c = c.loop-op.invariant.kept (c.args.lines.count * c.args.lines.wide) c.requires.groups

pub returns-clause-groups : goal.returns-clause-groups
returns-clause-groups c = c.loop-op.invariant.kept

pub draw-depth-requires-clause-inside : goal.draw-depth-requires-clause-inside
draw-depth-requires-clause-inside c =
    let a = c.args in
    let n = a.lines in
    let l = c.loop-op in
    inside_next a.ground a.start n.width n.left n.wide n.count (map (λ r. r.now) a.ops.now) a.groups.now l.op-index a.pixels.now l.pixels l.groups l.depth l.invariant
    c.op-item.result.now (low_in a.ops.now l.op-index c.loop-op-test.true) (at_hand a.ops.now l.op-index c.op-item.result c.op-item.result c.loop-op-test.true c.op-item.is)

pub draw-depth-requires-clause-open : goal.draw-depth-requires-clause-open
draw-depth-requires-clause-open c =
    let a = c.args in
    let n = a.lines in
    let l = c.loop-op in
    open_next a.ground a.start n.width n.left n.wide n.count (map (λ r. r.now) a.ops.now) a.groups.now l.op-index a.pixels.now l.pixels l.groups l.depth l.invariant
    c.op-item.result.now (low_in a.ops.now l.op-index c.loop-op-test.true) (at_hand a.ops.now l.op-index c.op-item.result c.op-item.result c.loop-op-test.true c.op-item.is)

pub draw-depth-requires-clause-may : goal.draw-depth-requires-clause-may
draw-depth-requires-clause-may c =
    let a = c.args in
    let n = a.lines in
    let l = c.loop-op in
    may_next a.ground a.start n.width n.left n.wide n.count (map (λ r. r.now) a.ops.now) a.groups.now l.op-index a.pixels.now l.pixels l.groups l.depth l.invariant
    c.op-item.result.now (low_in a.ops.now l.op-index c.loop-op-test.true) (at_hand a.ops.now l.op-index c.op-item.result c.op-item.result c.loop-op-test.true c.op-item.is)

pub loop-op-preserved : goal.loop-op-preserved
loop-op-preserved c =
    let a = c.args in
    let n = a.lines in
    let l = c.loop-op in
    let e = c.draw-depth.ensures in
    next a.ground a.start n.width n.left n.wide n.count (map (λ r. r.now) a.ops.now) a.groups.now l.op-index a.pixels.now l.pixels l.groups l.depth l.invariant
    c.op-item.result.now (low_in a.ops.now l.op-index c.loop-op-test.true) (at_hand a.ops.now l.op-index c.op-item.result c.op-item.result c.loop-op-test.true c.op-item.is)
    c.draw-depth.new.pixels c.draw-depth.new.groups c.draw-depth.result e.depth e.long e.count e.groups e.outside e.drawn

pub returns-clause-painted : goal.returns-clause-painted
returns-clause-painted c =
    let a = c.args in
    let n = a.lines in
    let l = c.loop-op in
    ends a.ground a.start n.width n.left n.wide n.count (map (λ r. r.now) a.ops.now) a.groups.now l.op-index a.pixels.now l.pixels l.groups l.depth l.invariant
    (subst (λ n. n ≤ l.op-index) (sym (length-map a.ops.now (λ r. r.now))) c.loop-op-test.false) c.requires.lines
