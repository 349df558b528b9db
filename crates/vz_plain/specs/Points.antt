-- Points within bounds.
use Rattle.std.specs.Prelude.{pos, ◌+ℤ◌, ◌-ℤ◌, ◌≤ℤ◌}
use Rattle.vz_base.specs.declared.limits.TheConstants.{GREATEST_EDGE}
use Rattle.vz_geom.specs.declared.Point.{Point}

-- a point within twice the limit of edges
pub record IsClose (p : Point) : Type 0 where
  pub left : (pos 0 -ℤ (GREATEST_EDGE +ℤ GREATEST_EDGE)) ≤ℤ p.x
  pub right : p.x ≤ℤ (GREATEST_EDGE +ℤ GREATEST_EDGE)
  pub top : (pos 0 -ℤ (GREATEST_EDGE +ℤ GREATEST_EDGE)) ≤ℤ p.y
  pub bottom : p.y ≤ℤ (GREATEST_EDGE +ℤ GREATEST_EDGE)
