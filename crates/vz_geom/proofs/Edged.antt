-- A rectangle with points.
use Rattle.std.proofs.Common.{pos, ◌+ℤ◌, ◌-ℤ◌, ◌≤ℤ◌, ℤ, arith}
use Rattle.std.proofs.lemmas.Int.{ints}
use Rattle.vz_base.specs.declared.limits.TheConstants.{GREATEST_EDGE}
use Rattle.vz_geom.specs.Rectangle.{IsRectangle}
use Rattle.vz_geom.proofs.Sets.{full_sides}

-- its sides are positive, and its edges within the limit
pub has_points : (x y w h : ℤ) → pos 1 ≤ℤ w → pos 1 ≤ℤ h → (pos 0 -ℤ GREATEST_EDGE) ≤ℤ x → (pos 0 -ℤ GREATEST_EDGE) ≤ℤ y
    → (x +ℤ w) ≤ℤ GREATEST_EDGE → (y +ℤ h) ≤ℤ GREATEST_EDGE → IsRectangle (record { x = x; y = y; w = w; h = h })
has_points x y w h wide high left top right bottom = record {
  edges = record { left = left; top = top; right = right; bottom = bottom };
  wide = omega (arith, ints, wide);
  high = omega (arith, ints, high);
  own = full_sides x y w h wide high;
}
