-- The limits of frames that fit a message file, and how far a walk may move places.
use Rattle.std.specs.Prelude.{ℕ, pos, unsigned_abs, ◌+◌, ◌*◌, ◌+ℤ◌, ◌≤ℤ◌, IsTrue, IfSome, Option}
use Rattle.vz_base.specs.declared.limits.TheConstants.{GREATEST_COORDINATE, GREATEST_SIDE, MOST_PASSES}
use Rattle.vz_geom.specs.declared.Point.{Point}
use Rattle.vz_geom.specs.Rectangle.{Rectangle, IsOffset, corner}
use Rattle.vz_frame.specs.declared.frame.CompositorFrame.{CompositorFrame}
use Rattle.vz_frame.specs.declared.frame.RenderPass.{RenderPass}
use Rattle.vz_frame.specs.declared.frame.DrawQuad.{DrawQuad}
use Rattle.vz_frame.specs.Fits.{fits_frame}

-- a frame fits a message file of some format
abbrev pub FitsFile : CompositorFrame → Type 0
FitsFile frame = (format : ℕ) × IsTrue (fits_frame format frame)

-- a rectangle's corner is within the bounds of a coordinate, and its edges are within those of a
-- coordinate and a side
pub record IsInReach (r : Rectangle) : Type 0 where
  pub first : IsOffset (corner r)
  pub wide : pos 0 ≤ℤ r.w
  pub high : pos 0 ≤ℤ r.h
  pub right : (r.x +ℤ r.w) ≤ℤ (GREATEST_COORDINATE +ℤ GREATEST_SIDE)
  pub bottom : (r.y +ℤ r.h) ≤ℤ (GREATEST_COORDINATE +ℤ GREATEST_SIDE)

-- the clip, if there is one, is within bounds
abbrev pub IsClipInReach : Option Rectangle → Type 0
IsClipInReach clip = IfSome clip IsInReach

-- the rectangles of a pass are within bounds
pub record IsPassInReach (pass : RenderPass) : Type 0 where
  pub drawn : IsInReach pass.output
  pub damaged : IsInReach pass.damage

-- the offset and the rectangles of a quad are within bounds
pub record IsQuadInReach (quad : DrawQuad) : Type 0 where
  pub moves : IsOffset quad.offset
  pub drawn : IsInReach quad.area
  pub seen : IsInReach quad.visible
  pub clipped : IsClipInReach quad.clip

-- a point that stays within 52,000,000 if it is moved so far in any direction
pub record HasRoom (far : ℕ) (p : Point) : Type 0 where
  pub left : pos far ≤ℤ (p.x +ℤ pos 52000000)
  pub right : (p.x +ℤ pos far) ≤ℤ pos 52000000
  pub top : pos far ≤ℤ (p.y +ℤ pos 52000000)
  pub bottom : (p.y +ℤ pos far) ≤ℤ pos 52000000

-- how far so many coordinates can move a point at most, in any direction
abbrev pub coordinates : ℕ → ℕ
coordinates n = unsigned_abs GREATEST_COORDINATE * n

-- how far passes may still move places: so many passes of one frame, and all passes of so many
-- surfaces, each by three coordinates at most
abbrev pub room_for : ℕ → ℕ → ℕ
room_for levels passes = coordinates (3 * (MOST_PASSES * levels + passes))
