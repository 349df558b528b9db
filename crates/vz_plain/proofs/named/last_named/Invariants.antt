use Rattle.std.proofs.Common.{◌≡◌, ◌≤◌, ℕ, length}
use Rattle.vz_geom.specs.declared.Point.{Point}
use Rattle.vz_frame.specs.declared.blend.Blend.{Blend}
use Rattle.vz_pixels.specs.Colour.{Colour}
use Rattle.vz_plain.specs.Painting.{Painter, passes_in}
use Rattle.vz_plain.proofs.named.last_named.Given as goal

-- the passes that are left paint the same under that id
abbrev pub invariant-passes : goal.invariant-passes
invariant-passes l =
    ((p : Painter) (m : Blend) (o : ℕ) (at : Point) (d : Colour) → passes_in p l.fn.passes l.id m o at d ≡ passes_in p l.left l.id m o at d) × length l.left ≤ length l.fn.passes

abbrev pub decreases-passes : goal.decreases-passes
decreases-passes l = length l.left
