use Rattle.std.proofs.Common.{rules, ◌+◌, ◌-◌, ◌*◌, ◌<◌, ◌≤◌, ◌∙◌, [], get_or, length, refl, sym, ap, subst, arith}
use Rattle.std.proofs.lemmas.List.Elements.{All-set}
use Rattle.vz_pixels.specs.Colour.{transparent}
use Rattle.vz_flat.specs.Ops.{run}
use Rattle.vz_paint.specs.Redraw.{point_of, step_of}
use Rattle.vz_paint.proofs.{Patches.item_runs, Stacked.item_lowest, Stacked.item_inside, Grouped.written, Grouped.group_lines}
use Rattle.vz_paint.proofs.drawing.draw_inside.Goals as goal

pub returns-then-depth-eq0-clause-drawn : goal.returns-then-depth-eq0-clause-drawn
returns-then-depth-eq0-clause-drawn c = λ item r i rest low near.
    let a = c.args in
    let n = a.lines in
    let p = point_of a.start r i in
    item_lowest p (r * n.wide + i) a.depth a.op.now rest a.groups.now (get_or a.pixels.now ((r * n.width + n.left) + i) transparent) (get_or c.draw_in_rows.new.pixels ((r * n.width + n.left) + i) transparent) c.if-depth-eq0.true
    (item_runs a.start a.op.now rest [] r i (get_or a.pixels.now ((r * n.width + n.left) + i) transparent) item ∙ ap (run p rest []) (sym (c.draw_in_rows.ensures.each r i low near)))

pub draw_in_group-requires-clause-whole : goal.draw_in_group-requires-clause-whole
draw_in_group-requires-clause-whole c =
    let a = c.args in
    let some : 0 < a.depth = search rules in
    let most = c.requires.open in
    subst (λ k. a.lines.count * a.lines.wide ≤ k) (sym (ap length c.as_mut_slice.ensures.value)) (c.requires.groups (a.depth - 1) c.index-groups-depth.result (omega (arith, some, most)))

pub draw_in_group-requires-clause-lines : goal.draw_in_group-requires-clause-lines
draw_in_group-requires-clause-lines c =
    let a = c.args in
    let n = a.lines in
    let some : 0 < a.depth = search rules in
    let most = c.requires.open in
    group_lines a.start n.width n.left n.wide n.count a.pixels.now c.as_mut_slice.result.now c.requires.lines
    (subst (λ k. n.count * n.wide ≤ k) (sym (ap length c.as_mut_slice.ensures.value)) (c.requires.groups (a.depth - 1) c.index-groups-depth.result (omega (arith, some, most))))

pub returns-clause-groups : goal.returns-clause-groups
returns-clause-groups c = λ m have.
    let a = c.args in
    let d = c.index-groups-depth.result in
    let some : 0 < a.depth = search rules in
    let most = c.requires.open in
    let lent = c.as_mut_slice in
    let g = get_or a.groups.now (a.depth - 1) d in
    let e = c.draw_in_group.ensures in
    All-set (λ h. m ≤ length h.pixels.items) a.groups.now (a.depth - 1) _
    (subst (λ k. m ≤ k) (sym (ap length (written c.draw_in_group.new.pixels g.pixels.items g.pixels.len (e.long ∙ lent.ensures.len)) ∙ (e.long ∙ ap length lent.ensures.value))) (have (a.depth - 1) d (omega (arith, some, most))))
    have

pub returns-clause-drawn : goal.returns-clause-drawn
returns-clause-drawn c = λ item r i rest low near.
    let a = c.args in
    let n = a.lines in
    let d = c.index-groups-depth.result in
    let some : 0 < a.depth = search rules in
    let most = c.requires.open in
    let lent = c.as_mut_slice in
    let p = point_of a.start r i in
    let at = r * n.wide + i in
    let g = get_or a.groups.now (a.depth - 1) d in
    let e = c.draw_in_group.ensures in
    item_inside p at a.depth a.op.now rest a.groups.now d _ (get_or a.pixels.now ((r * n.width + n.left) + i) transparent) some most refl refl refl
    (λ stack. item_runs a.start a.op.now rest stack r i (get_or g.pixels.items at transparent) item
    ∙ ap (run p rest stack)
    (ap (λ l. step_of a.start a.op.now r i (get_or l at transparent)) (sym lent.ensures.value)
    ∙ (sym (e.each r i low near) ∙ ap (λ l. get_or l at transparent) (sym (written c.draw_in_group.new.pixels g.pixels.items g.pixels.len (e.long ∙ lent.ensures.len))))))
