-- Rows of points, and the colours that stand there.
use Rattle.std.specs.Prelude.{◌≡◌, ◌<◌, ℕ, pos, ◌+ℤ◌, int_le, int_lt, nat_le, nat_lt, Bool, ◌&&◌, List, length, get_or}
use Rattle.vz_geom.specs.declared.Point.{Point}
use Rattle.vz_pixels.specs.Colour.{Colour, transparent}
use Rattle.vz_plain.specs.declared.span.Reach.{Reach}
use Rattle.vz_plain.specs.declared.span.Span.{Span}

-- the point that is so many columns right of another
abbrev pub right_of : Point → ℕ → Point
right_of p i = record { x = p.x +ℤ pos i; y = p.y }

-- a reach has the column, counted from the row's first one
abbrev pub reaches : Reach → ℕ → Bool
reaches r i = (int_le r.left (pos i) && int_lt (pos i) r.right) && r.has_row

-- a span has the place
abbrev pub within : Span → ℕ → Bool
within s i = nat_le s.from i && nat_lt i s.to

-- the colours of the row from a point on are changed, each as its point tells
pub record IsPainted (change : Point → Colour → Colour) (start : Point) (old new : List Colour) : Type 0 where
  pub long : length new ≡ length old
  pub each : (i : ℕ) → i < length old → get_or new i transparent ≡ change (right_of start i) (get_or old i transparent)
