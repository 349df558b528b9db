use Rattle.std.proofs.Common.{◌∙◌, ap, sym}
use Rattle.vz_geom.specs.Rectangle.{Rectangle}
use Rattle.vz_geom.proofs.Bounds.{join_first, join_second, join_both, covers_first_of, covers_second_of, least_of}
use Rattle.vz_geom.proofs.Numbers.{all_given, fits_stays, same_max, same_min, given_edges, hull_of, first_within}
use Rattle.vz_geom.proofs.rect.Rect.bound.Goals as goal

-- This one is empty

pub returns-then-is_empty-clause-value : goal.returns-then-is_empty-clause-value
returns-then-is_empty-clause-value c =
    c.r.view_is ∙ sym (join_first c.args.self.now c.args.r.now (sym c.is_empty.ensures.value ∙ c.if-is_empty.true))

pub returns-then-is_empty-clause-covers_this : goal.returns-then-is_empty-clause-covers_this
returns-then-is_empty-clause-covers_this c = covers_first_of _ c.args.self.now c.args.r.now (returns-then-is_empty-clause-value c)

-- The other one is empty

pub returns-then-is_empty-2-clause-value : goal.returns-then-is_empty-2-clause-value
returns-then-is_empty-2-clause-value c =
    c.self.view_is
    ∙ sym (join_second c.args.self.now c.args.r.now (sym c.is_empty.ensures.value ∙ c.if-is_empty.false) (sym c.is_empty-2.ensures.value ∙ c.if-is_empty-2.true))

pub returns-then-is_empty-2-clause-covers_other : goal.returns-then-is_empty-2-clause-covers_other
returns-then-is_empty-2-clause-covers_other c = covers_second_of _ c.args.self.now c.args.r.now (returns-then-is_empty-2-clause-value c)

pub returns-then-is_empty-2-clause-least : goal.returns-then-is_empty-2-clause-least
returns-then-is_empty-2-clause-least c = least_of _ c.args.self.now c.args.r.now (returns-then-is_empty-2-clause-value c)

-- Both have points

pub with_edges-requires-clause-left : goal.with_edges-requires-clause-left
with_edges-requires-clause-left c =
    let a : Rectangle = record { x = c.self.inside.x; y = c.self.inside.y; w = c.self.inside.w; h = c.self.inside.h } in
    let b : Rectangle = record { x = c.r.inside.x; y = c.r.inside.y; w = c.r.inside.w; h = c.r.inside.h } in
    let m = all_given a c.self.invariant in
    let n = all_given b c.r.invariant in
    first_within c.smaller.result a.x b.x c.smaller.type_inv (c.smaller.ensures.value ∙ same_min m.x n.x) c.self.invariant.edges.left c.r.invariant.edges.left

pub with_edges-requires-clause-top : goal.with_edges-requires-clause-top
with_edges-requires-clause-top c =
    let a : Rectangle = record { x = c.self.inside.x; y = c.self.inside.y; w = c.self.inside.w; h = c.self.inside.h } in
    let b : Rectangle = record { x = c.r.inside.x; y = c.r.inside.y; w = c.r.inside.w; h = c.r.inside.h } in
    let m = all_given a c.self.invariant in
    let n = all_given b c.r.invariant in
    first_within c.smaller-2.result a.y b.y c.smaller-2.type_inv (c.smaller-2.ensures.value ∙ same_min m.y n.y) c.self.invariant.edges.top c.r.invariant.edges.top

pub returns-clause-value : goal.returns-clause-value
returns-clause-value c =
    let a : Rectangle = record { x = c.self.inside.x; y = c.self.inside.y; w = c.self.inside.w; h = c.self.inside.h } in
    let b : Rectangle = record { x = c.r.inside.x; y = c.r.inside.y; w = c.r.inside.w; h = c.r.inside.h } in
    let m = all_given a c.self.invariant in
    let n = all_given b c.r.invariant in
    let left = c.smaller.ensures.value ∙ same_min (m.x ∙ ap (λ (r : Rectangle). r.x) c.self.view_is) (n.x ∙ ap (λ (r : Rectangle). r.x) c.r.view_is) in
    let top = c.smaller-2.ensures.value ∙ same_min (m.y ∙ ap (λ (r : Rectangle). r.y) c.self.view_is) (n.y ∙ ap (λ (r : Rectangle). r.y) c.r.view_is) in
    let right = c.greater.ensures.value ∙ same_max (fits_stays c.right.result c.right.type_inv ∙ c.right.ensures.value) (fits_stays c.right-2.result c.right-2.type_inv ∙ c.right-2.ensures.value) in
    let bottom = c.greater-2.ensures.value ∙ same_max (fits_stays c.bottom.result c.bottom.type_inv ∙ c.bottom.ensures.value) (fits_stays c.bottom-2.result c.bottom-2.type_inv ∙ c.bottom-2.ensures.value) in
    c.with_edges.ensures.value
    ∙ given_edges c.smaller.result c.smaller-2.result c.greater.result c.greater-2.result (fits_stays _ c.smaller.type_inv) (fits_stays _ c.smaller-2.type_inv) (fits_stays _ c.greater.type_inv) (fits_stays _ c.greater-2.type_inv)
    ∙ hull_of c.args.self.now c.args.r.now c.smaller.result c.smaller-2.result c.greater.result c.greater-2.result left top right bottom
    ∙ sym (join_both c.args.self.now c.args.r.now (sym c.is_empty.ensures.value ∙ c.if-is_empty.false) (sym c.is_empty-2.ensures.value ∙ c.if-is_empty-2.false))

pub returns-clause-covers_this : goal.returns-clause-covers_this
returns-clause-covers_this c = covers_first_of _ c.args.self.now c.args.r.now (returns-clause-value c)

pub returns-clause-covers_other : goal.returns-clause-covers_other
returns-clause-covers_other c = covers_second_of _ c.args.self.now c.args.r.now (returns-clause-value c)

pub returns-clause-least : goal.returns-clause-least
returns-clause-least c = least_of _ c.args.self.now c.args.r.now (returns-clause-value c)
