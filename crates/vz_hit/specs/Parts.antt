-- Places of passes in the parts of the display in which they have points, and the ends of a surface's size.
use Rattle.std.specs.Prelude.{◌≡◌, true, pos, ◌≤ℤ◌}
use Rattle.vz_geom.specs.declared.Point.{Point}
use Rattle.vz_geom.specs.Rectangle.{has, plus, minus}
use Rattle.vz_frame.specs.declared.frame.RenderPass.{RenderPass}
use Rattle.vz_frame.specs.Frame.{frame_size}
use Rattle.vz_rules.specs.World.{FrameData}
use Rattle.vz_rules.specs.Walk.{Placement}
use Rattle.vz_flat.specs.Parts.{pass_part, inner_place}

-- the offset that moves a point back which another one moved
abbrev pub from_origin : Point → Point
from_origin by = minus (record { x = pos 0; y = pos 0 }) by

-- the place of a pass that a quad names, in the part in which it has points
abbrev pub group_place : RenderPass → Placement → Placement
group_place pass place = record { shift = (inner_place pass place).shift; window = pass_part pass (inner_place pass place) }

-- the column and the row after the last ones of a surface
abbrev pub past_size : FrameData → Placement → Point
past_size i place = plus place.shift (record { x = (frame_size i.frame).w; y = (frame_size i.frame).h })

-- nothing of a window is above or left of the place's first point
pub record StartsAtCorner (place : Placement) : Type 0 where
  pub left : (p : Point) → has place.window p ≡ true → place.shift.x ≤ℤ p.x
  pub top : (p : Point) → has place.window p ≡ true → place.shift.y ≤ℤ p.y
