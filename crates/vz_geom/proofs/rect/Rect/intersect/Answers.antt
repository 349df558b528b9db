use Rattle.std.proofs.Common.{◌≡◌, ◌∙◌, ap}
use Rattle.vz_geom.specs.Rectangle.{Rectangle, has, meet}
use Rattle.vz_geom.proofs.Numbers.{all_given, fits_stays, same_max, same_min, given_edges, meet_of}
use Rattle.vz_geom.proofs.Sets.{has_meet_is}
use Rattle.vz_geom.proofs.rect.Rect.intersect.Goals as goal

the_value : (c : goal.After-with_edges) → c.with_edges.result ≡ meet c.args.self.now c.args.r.now
the_value c =
    let a : Rectangle = record { x = c.self.inside.x; y = c.self.inside.y; w = c.self.inside.w; h = c.self.inside.h } in
    let b : Rectangle = record { x = c.r.inside.x; y = c.r.inside.y; w = c.r.inside.w; h = c.r.inside.h } in
    let m = all_given a c.self.invariant in
    let n = all_given b c.r.invariant in
    let left = c.greater.ensures.value ∙ same_max (m.x ∙ ap (λ (r : Rectangle). r.x) c.self.view_is) (n.x ∙ ap (λ (r : Rectangle). r.x) c.r.view_is) in
    let top = c.greater-2.ensures.value ∙ same_max (m.y ∙ ap (λ (r : Rectangle). r.y) c.self.view_is) (n.y ∙ ap (λ (r : Rectangle). r.y) c.r.view_is) in
    let right = c.smaller.ensures.value ∙ same_min (fits_stays c.right.result c.right.type_inv ∙ c.right.ensures.value) (fits_stays c.right-2.result c.right-2.type_inv ∙ c.right-2.ensures.value) in
    let bottom = c.smaller-2.ensures.value ∙ same_min (fits_stays c.bottom.result c.bottom.type_inv ∙ c.bottom.ensures.value) (fits_stays c.bottom-2.result c.bottom-2.type_inv ∙ c.bottom-2.ensures.value) in
    c.with_edges.ensures.value
    ∙ given_edges c.greater.result c.greater-2.result c.smaller.result c.smaller-2.result (fits_stays _ c.greater.type_inv) (fits_stays _ c.greater-2.type_inv) (fits_stays _ c.smaller.type_inv) (fits_stays _ c.smaller-2.type_inv)
    ∙ meet_of c.args.self.now c.args.r.now c.greater.result c.greater-2.result c.smaller.result c.smaller-2.result left top right bottom

pub returns-clause-value : goal.returns-clause-value
returns-clause-value c = the_value c

pub returns-clause-points : goal.returns-clause-points
returns-clause-points c p = ap (λ (r : Rectangle). has r p) (the_value c) ∙ has_meet_is c.args.self.now c.args.r.now p
