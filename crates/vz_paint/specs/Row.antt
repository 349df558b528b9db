-- A row of colours from a point on, and the rows of the open groups.
use Rattle.std.specs.Prelude.{ℕ, pos, ◌+ℤ◌, ◌≤ℤ◌}
use Rattle.vz_base.specs.declared.limits.TheConstants.{GREATEST_DISPLAY_SIDE}
use Rattle.vz_geom.specs.declared.Point.{Point}
use Rattle.vz_geom.specs.Rectangle.{Rectangle}

-- the point that is so many columns to the right of another
abbrev pub right_of : Point → ℕ → Point
right_of p i = record { x = p.x +ℤ pos i; y = p.y }

-- a point of a display at which a row begins
pub record IsStart (p : Point) : Type 0 where
  pub left : pos 0 ≤ℤ p.x
  pub right : p.x ≤ℤ pos GREATEST_DISPLAY_SIDE

-- the point of an area in this column and this row of the area
abbrev pub place_in : Rectangle → ℕ → ℕ → Point
place_in area i k = record { x = area.x +ℤ pos i; y = area.y +ℤ pos k }
