-- The rows that operations draw on an area.
use Rattle.std.specs.Prelude.{◌≡◌, pos, nat_abs, ◌+ℤ◌, ◌≤ℤ◌, ◌≤◌, ◌<◌, ◌*◌, ℕ, true, List, length, map}
use Rattle.std.specs.List.{range_with_len}
use Rattle.vz_base.specs.declared.limits.TheConstants.{GREATEST_DISPLAY_SIDE}
use Rattle.vz_geom.specs.Rectangle.{Rectangle, points_of}
use Rattle.vz_pixels.specs.Colour.{Colour, black}
use Rattle.vz_rules.specs.Frames.{patched}
use Rattle.vz_buffers.specs.Canvas.{Canvas}
use Rattle.vz_buffers.specs.Bands.{Strip}
use Rattle.vz_flat.specs.declared.op.Op.{Op}
use Rattle.vz_flat.specs.Ops.{value, is_whole, deepest}
use Rattle.vz_paint.specs.declared.group.OpenGroup.{OpenGroup}
use Rattle.vz_paint.specs.Row.{place_in}
use Rattle.vz_paint.specs.Stack.{HavePixels}

-- an area with points, all of them on a display
pub record IsArea (area : Rectangle) : Type 0 where
  pub left : pos 0 ≤ℤ area.x
  pub right : (area.x +ℤ area.w) ≤ℤ pos GREATEST_DISPLAY_SIDE
  pub top : pos 0 ≤ℤ area.y
  pub bottom : (area.y +ℤ area.h) ≤ℤ pos GREATEST_DISPLAY_SIDE
  pub wide : pos 1 ≤ℤ area.w
  pub high : pos 1 ≤ℤ area.h

-- the rows that operations make of a colour on an area
abbrev pub strip_of : List Op → Colour → Rectangle → Strip
strip_of ops base area =
    record { high = nat_abs area.h; row = λ k. map (λ i. value ops (place_in area i k) base) (range_with_len 0 (nat_abs area.w)) }

-- what is needed to draw the rows, at most so many at once: valid operations, and these rows of each
-- group that they have open at once
pub record IsBrush (ops : List Op) (area : Rectangle) (rows : ℕ) (groups : List OpenGroup) : Type 0 where
  pub stands : IsArea area
  pub whole : is_whole ops ≡ true
  pub some : 0 < rows
  pub room : deepest 0 ops ≤ length groups
  pub pixels : HavePixels (rows * nat_abs area.w) groups

-- an area of a buffer has the colours that operations give on opaque black, and what is outside
-- stays
abbrev pub IsPainted : List Op → Rectangle → Canvas → Canvas → Type 0
IsPainted ops area old new = new.pixels ≡ patched area (points_of old.size) (map (λ p. value ops p black) (points_of old.size)) old.pixels
