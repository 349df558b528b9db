-- The size of a display.
use Rattle.std.specs.Prelude.{pos, ◌≤ℤ◌}
use Rattle.vz_base.specs.declared.limits.TheConstants.{GREATEST_DISPLAY_SIDE}
use Rattle.vz_geom.specs.declared.Size.{Size}

-- both sides of a display are from 1 to the limit
pub record IsDisplaySize (size : Size) : Type 0 where
  pub wide : pos 1 ≤ℤ size.w
  pub not_too_wide : size.w ≤ℤ pos GREATEST_DISPLAY_SIDE
  pub high : pos 1 ≤ℤ size.h
  pub not_too_high : size.h ≤ℤ pos GREATEST_DISPLAY_SIDE
