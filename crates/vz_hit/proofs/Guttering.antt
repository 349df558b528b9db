-- That the two parts of a gutter are what is outside the surface.
use Rattle.std.proofs.Common.{◌≡◌, ℤ, ◌+ℤ◌, ◌-ℤ◌, ◌≤ℤ◌, ◌<ℤ◌, int_le, Bool, true, false, not, ◌&&◌, ◌||◌, ◌==◌, Some, None, refl, ap, sym, ◌∙◌, cond, arith}
use Rattle.std.proofs.lemmas.Int.{ints}
use Rattle.vz_geom.specs.declared.Point.{Point}
use Rattle.vz_geom.specs.Rectangle.{Rectangle, has, plus, minus, sized, with_sides, no_rectangle}
use Rattle.vz_geom.proofs.Sets.{IsIn, to_in, of_in, of_sides, in_sides, both, and_true, le_true, true_le}
use Rattle.vz_ids.specs.declared.SurfaceId.{SurfaceId}
use Rattle.vz_ids.specs.declared.SurfaceRange.{SurfaceRange}
use Rattle.vz_ids.specs.Ids.{same_sink, same_surface}
use Rattle.vz_frame.specs.declared.frame.RenderPass.{RenderPass}
use Rattle.vz_frame.specs.declared.frame.DrawQuad.{DrawQuad}
use Rattle.vz_frame.specs.Frame.{frame_size}
use Rattle.vz_rules.specs.World.{FrameData}
use Rattle.vz_rules.specs.Scene.{or_else}
use Rattle.vz_rules.specs.Paint.{covers, in_clip}
use Rattle.vz_rules.specs.Hit.{Target}
use Rattle.vz_rules.specs.Walk.{Placement, seen_part, place_in}
use Rattle.vz_flat.specs.Whole.{IsQuadWhole}
use Rattle.vz_hit.specs.Parts.{past_size, StartsAtCorner}
use Rattle.vz_hit.specs.Hitting.{Stand, in_window, own, gutter_of}
use Rattle.vz_hit.proofs.Pointing.{seen_at}

-- What is seen of a quad starts at its corner

in_area : (pass : RenderPass) (quad : DrawQuad) (i : FrameData) (place : Placement) (p : Point) → IsQuadWhole i quad
    → has (seen_part place pass quad) p ≡ true → IsIn quad.area (minus (minus p place.shift) quad.offset)
unfolding covers
in_area pass quad i place p whole h =
    let q = minus p place.shift in
    let covered = (both (has place.window p) (covers pass quad q) (sym (seen_at pass quad place p) ∙ h)).1 in
    let visible = (both (has pass.output q && in_clip quad.clip q) (has quad.visible (minus q quad.offset)) covered).1 in
    to_in quad.area (minus q quad.offset) (whole.visible (minus q quad.offset) visible)

pub starts_at_corner : (pass : RenderPass) (quad : DrawQuad) (i : FrameData) (place inner : Placement) → inner ≡ place_in place pass quad
    → IsQuadWhole i quad → StartsAtCorner inner
starts_at_corner pass quad i place inner is whole =
    rw is
    (record {
      left = λ p h. let a = in_area pass quad i place p whole h in omega (arith, ints);
      top = λ p h. let a = in_area pass quad i place p whole h in omega (arith, ints);
    })

-- Outside a size

in_case : (z a b : Bool) → (a ≡ true → z ≡ false) → (b ≡ true → z ≡ false) → (a ≡ false → b ≡ false → z ≡ true) → z ≡ not (a || b)
in_case z true b f g h = f refl
in_case z false true f g h = g refl
in_case z false false f g h = h refl refl

not_has : (r : Rectangle) (p : Point) → (IsIn r p → ⊥) → has r p ≡ false
not_has r p h = by_test (has r p) refl
  where
    by_test : (t : Bool) → has r p ≡ t → has r p ≡ false
    by_test true e = absurd (h (to_in r p e))
    by_test false e = e

le_false : (a b : ℤ) → int_le a b ≡ false → b <ℤ a
le_false a b h = grind (arith, ints)

-- a point that is right of the corner and below it is inside the size unless it is at the past column or row, or further on
outside_size : (i : FrameData) (place : Placement) (p : Point) → place.shift.x ≤ℤ p.x → place.shift.y ≤ℤ p.y
    → has (sized (frame_size i.frame)) (minus p place.shift) ≡ not (int_le (past_size i place).x p.x || int_le (past_size i place).y p.y)
outside_size i place p left top =
    let size = frame_size i.frame in
    let right = (past_size i place).x in
    let bottom = (past_size i place).y in
    in_case (has (sized size) (minus p place.shift)) (int_le right p.x) (int_le bottom p.y)
    (λ e. let far = le_true right p.x e in not_has (sized size) (minus p place.shift) (λ in_it. omega (arith, ints)))
    (λ e. let far = le_true bottom p.y e in not_has (sized size) (minus p place.shift) (λ in_it. omega (arith, ints)))
    (λ e f.
    let near = le_false right p.x e in
    let high = le_false bottom p.y f in
    of_in (sized size) (minus p place.shift)
    (record { left = omega (arith, ints); right = omega (arith, ints); top = omega (arith, ints); bottom = omega (arith, ints) }))

gutter_case : (w a b z e : Bool) (o : SurfaceId × Point) → (w ≡ true → z ≡ not (a || b)) → e ≡ false
    → ◌≡◌ {A = Target} (or_else (cond (w && a) (Some o) None) (cond (w && b) (Some o) None)) (cond w (elim z [ true ↦ None | false ↦ elim e [ true ↦ None | false ↦ Some o ] ]) None)
gutter_case true true b z e o f g = rw (f refl, g) refl
gutter_case true false true z e o f g = rw (f refl, g) refl
gutter_case true false false z e o f g = rw (f refl) refl
gutter_case false a b z e o f g = refl

-- the two parts of a gutter
pub gutter_is : (s : Stand) (range : SurfaceRange) (i : FrameData) (place : Placement) (window right under : Rectangle) (past : Point)
    → window ≡ place.window → past ≡ past_size i place → StartsAtCorner place → same_surface i.id range.end ≡ false
    → ((p : Point) → has right p ≡ (has window p && int_le past.x p.x))
    → ((p : Point) → has under p ≡ (has window p && int_le past.y p.y)) → (p : Point)
    → or_else (in_window right (own s) p) (in_window under (own s) p) ≡ in_window place.window (gutter_of s range i place.shift) p
gutter_is s range i place window right under past e f starts other at_right at_under p =
    let a = int_le (past_size i place).x p.x in
    let b = int_le (past_size i place).y p.y in
    let beside : has right p ≡ (has place.window p && a) = at_right p
    ∙ (ap (λ (w : Rectangle). has w p && int_le past.x p.x) e ∙ ap (λ (q : Point). has place.window p && int_le q.x p.x) f) in
    let below : has under p ≡ (has place.window p && b) = at_under p
    ∙ (ap (λ (w : Rectangle). has w p && int_le past.y p.y) e ∙ ap (λ (q : Point). has place.window p && int_le q.y p.y) f) in
    ap {B = Target} (λ t. or_else (cond t (own s p) None) (cond (has under p) (own s p) None)) beside
    ∙ (ap {B = Target} (λ t. or_else (cond (has place.window p && a) (own s p) None) (cond t (own s p) None)) below
    ∙ gutter_case (has place.window p) a b (has (sized (frame_size i.frame)) (minus p place.shift)) (same_surface i.id range.end) (s.seen.id, plus p s.shift)
    (λ h. outside_size i place p (starts.left p h) (starts.top p h)) other)

end_case : (w z e : Bool) (o : Target) → e ≡ true
    → ◌≡◌ {A = Target} (cond w (elim z [ true ↦ None | false ↦ elim e [ true ↦ None | false ↦ o ] ]) None) None
end_case true true e o h = refl
end_case true false e o h = rw h refl
end_case false z e o h = refl

-- the range's end has none
pub no_gutter : (s : Stand) (range : SurfaceRange) (i : FrameData) (place : Placement) → same_surface i.id range.end ≡ true → (p : Point)
    → in_window place.window (gutter_of s range i place.shift) p ≡ None
no_gutter s range i place e p =
    end_case (has place.window p) (has (sized (frame_size i.frame)) (minus p place.shift)) (same_surface i.id range.end) (own s p) e

-- the test for one surface, joined in another order
joined : (s p c t : Bool) → (s && ((p && c) && t)) ≡ (s && (p && (c && t)))
joined true true c t = refl
joined true false c t = refl
joined false p c t = refl

pub same_joined : (a b : SurfaceId) (t : Bool)
    → (same_sink a.sink b.sink && ((a.local.parent == b.local.parent) && ((a.local.child == b.local.child) && (a.local.token.0 == b.local.token.0)))) ≡ t
    → same_surface a b ≡ t
same_joined a b t e =
    joined (same_sink a.sink b.sink) (a.local.parent == b.local.parent) (a.local.child == b.local.child) (a.local.token.0 == b.local.token.0) ∙ e

-- A part of a rectangle

-- the part from a column or a row on has the points from there on
and_case : (t r f : Bool) → (t ≡ true → (r ≡ true) × (f ≡ true)) → (r ≡ true → f ≡ true → t ≡ true) → t ≡ (r && f)
and_case true r f g h = let both = g refl in rw (both.0, both.1) refl
and_case false true true g h = h refl refl
and_case false true false g h = refl
and_case false false f g h = refl

-- if none is from there on
pub none_from : (r : Rectangle) (at p : Point) → (r.x +ℤ r.w) ≤ℤ at.x → has no_rectangle p ≡ (has r p && int_le at.x p.x)
none_from r at p past =
    and_case (has no_rectangle p) (has r p) (int_le at.x p.x)
    (λ h. absurd (let i = to_in no_rectangle p h in omega (arith, ints)))
    (λ h f. absurd (let i = to_in r p h in let far = le_true at.x p.x f in omega (arith, ints)))

pub none_down : (r : Rectangle) (at p : Point) → (r.y +ℤ r.h) ≤ℤ at.y → has no_rectangle p ≡ (has r p && int_le at.y p.y)
none_down r at p past =
    and_case (has no_rectangle p) (has r p) (int_le at.y p.y)
    (λ h. absurd (let i = to_in no_rectangle p h in omega (arith, ints)))
    (λ h f. absurd (let i = to_in r p h in let far = le_true at.y p.y f in omega (arith, ints)))

-- and if some is
pub some_from : (r part : Rectangle) (at p : Point) → part ≡ with_sides at.x r.y ((r.x +ℤ r.w) -ℤ at.x) r.h
    → (has part p && has r p) ≡ (has r p && int_le at.x p.x)
some_from r part at p is =
    and_case (has part p && has r p) (has r p) (int_le at.x p.x)
    (λ h.
    let in_both = both (has part p) (has r p) h in
    let i = of_sides at.x r.y ((r.x +ℤ r.w) -ℤ at.x) r.h p (sym (ap (λ (s : Rectangle). has s p) is) ∙ in_both.0) in
    (in_both.1, true_le at.x p.x i.left))
    (λ h f.
    let i = to_in r p h in
    let far = le_true at.x p.x f in
    and_true (has part p) (has r p)
    (ap (λ (s : Rectangle). has s p) is
    ∙ in_sides at.x r.y ((r.x +ℤ r.w) -ℤ at.x) r.h p
    (record { left = omega (arith, ints); right = omega (arith, ints); top = omega (arith, ints); bottom = omega (arith, ints) })) h)

pub some_down : (r part : Rectangle) (at p : Point) → part ≡ with_sides r.x at.y r.w ((r.y +ℤ r.h) -ℤ at.y)
    → (has part p && has r p) ≡ (has r p && int_le at.y p.y)
some_down r part at p is =
    and_case (has part p && has r p) (has r p) (int_le at.y p.y)
    (λ h.
    let in_both = both (has part p) (has r p) h in
    let i = of_sides r.x at.y r.w ((r.y +ℤ r.h) -ℤ at.y) p (sym (ap (λ (s : Rectangle). has s p) is) ∙ in_both.0) in
    (in_both.1, true_le at.y p.y i.top))
    (λ h f.
    let i = to_in r p h in
    let far = le_true at.y p.y f in
    and_true (has part p) (has r p)
    (ap (λ (s : Rectangle). has s p) is
    ∙ in_sides r.x at.y r.w ((r.y +ℤ r.h) -ℤ at.y) p
    (record { left = omega (arith, ints); right = omega (arith, ints); top = omega (arith, ints); bottom = omega (arith, ints) })) h)
