use Rattle.std.proofs.Common.{rules, ◌+◌, ◌-◌, ◌*◌, ◌<◌, ◌≤◌, ◌∙◌, get_or, length, refl, sym, ap, subst, arith}
use Rattle.std.proofs.lemmas.List.Elements.{All-take, All-drop}
use Rattle.vz_pixels.specs.Colour.{transparent}
use Rattle.vz_paint.specs.{Redraw.point_of, Redraw.lays, Stack.HavePixels}
use Rattle.vz_paint.proofs.{Stacked.pop_lowest, Stacked.pop_inside, Stacked.pixels_stay, Grouped.written, Grouped.group_lines}
use Rattle.vz_paint.proofs.drawing.end_inside.Goals as goal

pub returns-then-depth-eq1-clause-drawn : goal.returns-then-depth-eq1-clause-drawn
returns-then-depth-eq1-clause-drawn c = λ r i rest low near.
    let a = c.args in
    let n = a.lines in
    let some : 0 < length a.groups.now = search rules in
    pop_lowest (point_of a.start r i) (r * n.wide + i) a.depth rest a.groups.now c.index-groups-0.result (get_or a.pixels.now ((r * n.width + n.left) + i) transparent) (get_or c.lay_rows.new.pixels ((r * n.width + n.left) + i) transparent)
    some (c.lay_rows.ensures.each r i low near) c.if-depth-eq1.true

pub lay_in_group-requires-clause-whole : goal.lay_in_group-requires-clause-whole
lay_in_group-requires-clause-whole c =
    let a = c.args in
    let n = a.lines in
    let cut = c.split_at_mut-outer in
    let two : 2 ≤ a.depth = search rules in
    let counted = cut.ensures.front_len in
    subst (λ k. n.count * n.wide ≤ k) (sym (ap length c.as_mut_slice-below.ensures.value))
    (subst (HavePixels (n.count * n.wide)) (sym cut.ensures.front) (All-take (λ g. n.count * n.wide ≤ length g.pixels.items) (a.depth - 1) a.groups.now c.requires.groups) (a.depth - 2) c.index-outer-depth.result (omega (arith, two, counted)))

pub lay_in_group-requires-clause-lines : goal.lay_in_group-requires-clause-lines
lay_in_group-requires-clause-lines c =
    let a = c.args in
    let n = a.lines in
    let cut = c.split_at_mut-outer in
    let two : 2 ≤ a.depth = search rules in
    let counted = cut.ensures.front_len in
    group_lines a.start n.width n.left n.wide n.count a.pixels.now c.as_mut_slice-below.result.now c.requires.lines
    (subst (λ k. n.count * n.wide ≤ k) (sym (ap length c.as_mut_slice-below.ensures.value))
    (subst (HavePixels (n.count * n.wide)) (sym cut.ensures.front) (All-take (λ g. n.count * n.wide ≤ length g.pixels.items) (a.depth - 1) a.groups.now c.requires.groups) (a.depth - 2) c.index-outer-depth.result (omega (arith, two, counted))))

pub lay_in_group-requires-clause-inner : goal.lay_in_group-requires-clause-inner
lay_in_group-requires-clause-inner c =
    let a = c.args in
    let n = a.lines in
    let cut = c.split_at_mut-outer in
    let more : 0 < length cut.result.1.now = search rules in
    subst (HavePixels (n.count * n.wide)) (sym cut.ensures.back) (All-drop (λ g. n.count * n.wide ≤ length g.pixels.items) (a.depth - 1) a.groups.now c.requires.groups) 0 c.index-inner-0.result more

pub returns-clause-groups : goal.returns-clause-groups
returns-clause-groups c = λ m have.
    let a = c.args in
    let cut = c.split_at_mut-outer in
    let outer = cut.result.0.now in
    let d = c.index-outer-depth.result in
    let two : 2 ≤ a.depth = search rules in
    let counted = cut.ensures.front_len in
    let low : a.depth - 2 < length outer = omega (arith, two, counted) in
    let o = get_or outer (a.depth - 2) d in
    let lent = c.as_mut_slice-below in
    let e = c.lay_in_group.ensures in
    let own = subst (HavePixels m) (sym cut.ensures.front) (All-take (λ g. m ≤ length g.pixels.items) (a.depth - 1) a.groups.now have) (a.depth - 2) d low in
    pixels_stay m (a.depth - 2) a.groups.now outer cut.result.1.now _ cut.ensures.value low
    (subst (λ k. m ≤ k) (sym (ap length (written c.lay_in_group.new.pixels o.pixels.items o.pixels.len (e.long ∙ lent.ensures.len)) ∙ (e.long ∙ ap length lent.ensures.value))) own)
    have

pub returns-clause-drawn : goal.returns-clause-drawn
returns-clause-drawn c = λ r i rest in_rows near.
    let a = c.args in
    let n = a.lines in
    let cut = c.split_at_mut-outer in
    let outer = cut.result.0.now in
    let inner = cut.result.1.now in
    let d = c.index-outer-depth.result in
    let x = c.index-inner-0.result in
    let two : 2 ≤ a.depth = search rules in
    let counted = cut.ensures.front_len in
    let more : 0 < length inner = search rules in
    let o = get_or outer (a.depth - 2) d in
    let g = get_or inner 0 x in
    let lent = c.as_mut_slice-below in
    let e = c.lay_in_group.ensures in
    let at = r * n.wide + i in
    pop_inside (point_of a.start r i) at a.depth (a.depth - 2) rest a.groups.now outer inner d x _ (get_or a.pixels.now ((r * n.width + n.left) + i) transparent) (omega (arith, two)) (omega (arith, two, counted)) more cut.ensures.value refl refl refl
    (ap (λ l. get_or l at transparent) (written c.lay_in_group.new.pixels o.pixels.items o.pixels.len (e.long ∙ lent.ensures.len))
    ∙ (e.each r i in_rows near ∙ ap (λ l. lays a.start n.wide g r i (get_or l at transparent)) lent.ensures.value))
