-- Points of the display and of what is on it.
use Rattle.std.proofs.Common.{◌≡◌, pos, ◌&&◌, ap, ◌∙◌, subst, arith}
use Rattle.std.proofs.lemmas.Int.{ints}
use Rattle.vz_geom.specs.declared.Point.{Point}
use Rattle.vz_geom.specs.Rectangle.{Rectangle, has, plus, minus, corner, meet, moved}
use Rattle.vz_geom.proofs.Points.{same_point}
use Rattle.vz_geom.proofs.Sets.{has_moved_is, has_meet_is}
use Rattle.vz_frame.specs.declared.frame.RenderPass.{RenderPass}
use Rattle.vz_frame.specs.declared.frame.DrawQuad.{DrawQuad}
use Rattle.vz_rules.specs.Paint.{covers, local_point}
use Rattle.vz_rules.specs.Walk.{Placement, seen_part}
use Rattle.vz_rules.proofs.Geometry.{has_seen_is}
use Rattle.vz_hit.specs.Parts.{from_origin}

there_and_back : (p by : Point) → plus (minus p by) by ≡ p
there_and_back p by = same_point (omega (arith, ints)) (omega (arith, ints))

-- a point moved by the offset that moves back
pub moved_back : (p by : Point) → plus p (from_origin by) ≡ minus p by
moved_back p by = same_point (omega (arith, ints)) (omega (arith, ints))

-- the same of a named offset
pub moved_by : (p by back : Point) → back ≡ from_origin by → plus p back ≡ minus p by
moved_by p by back e = ap (plus p) e ∙ moved_back p by

pub not_moved : (p : Point) → minus p (record { x = pos 0; y = pos 0 }) ≡ p
not_moved p = same_point (omega (arith, ints)) (omega (arith, ints))

-- a point of what a quad draws
pub in_quad : (quad : DrawQuad) (p by : Point) → minus p (plus (plus by quad.offset) (corner quad.area)) ≡ local_point quad (minus p by)
in_quad quad p by = same_point (omega (arith, ints)) (omega (arith, ints))

-- a point of a pass that a quad names
pub in_pass : (p by first : Point) → minus p (minus by first) ≡ plus (minus p by) first
in_pass p by first = same_point (omega (arith, ints)) (omega (arith, ints))

-- a quad is seen at a point exactly if the window has it and the quad covers it
pub seen_at : (pass : RenderPass) (quad : DrawQuad) (place : Placement) (p : Point)
    → has (seen_part place pass quad) p ≡ (has place.window p && covers pass quad (minus p place.shift))
seen_at pass quad place p =
    subst (λ (r : Point). has (seen_part place pass quad) r ≡ (has place.window r && covers pass quad (minus p place.shift)))
    (there_and_back p place.shift) (has_seen_is pass quad (minus p place.shift) place)

-- a window cut by a moved rectangle has the points that both have
pub part_at : (window r : Rectangle) (by p : Point) → has (meet window (moved r by)) p ≡ (has window p && has r (minus p by))
part_at window r by p =
    has_meet_is window (moved r by) p
    ∙ ap (λ t. has window p && t)
    (subst (λ (q : Point). has (moved r by) q ≡ has r (minus p by)) (there_and_back p by) (has_moved_is r by (minus p by)))
