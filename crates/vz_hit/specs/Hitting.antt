-- A surface whose regions are put, and what its passes, quads and ranges answer at a point of the display.
use Rattle.std.specs.Prelude.{◌≡◌, ℕ, true, false, Option, Some, None, List, take, reverse, slice_get, if◌then◌else◌}
use Rattle.vz_geom.specs.declared.Point.{Point}
use Rattle.vz_geom.specs.Rectangle.{Rectangle, has, plus, minus, corner, sized}
use Rattle.vz_ids.specs.declared.SurfaceId.{SurfaceId}
use Rattle.vz_ids.specs.declared.SurfaceRange.{SurfaceRange}
use Rattle.vz_ids.specs.Ids.{same_surface}
use Rattle.vz_frame.specs.declared.frame.RenderPass.{RenderPass}
use Rattle.vz_frame.specs.declared.frame.DrawQuad.{DrawQuad}
use Rattle.vz_frame.specs.declared.frame.Material.{Material}
use Rattle.vz_frame.specs.declared.frame.Material.TheVariants.{Surface, Pass}
use Rattle.vz_frame.specs.Frame.{frame_size}
use Rattle.vz_rules.specs.World.{FrameData}
use Rattle.vz_rules.specs.Scene.{or_else}
use Rattle.vz_rules.specs.Kept.{IsWhole}
use Rattle.vz_rules.specs.Hit.{Target, HitNamed, HitRange, quads_hit, group_hit, groups_hit, shown_hit, range_hit, hit}
use Rattle.vz_surfaces.specs.Stored.{Stored}
use Rattle.vz_surfaces.specs.Keeping.{KeepsStored, KeepsFrames}
use Rattle.vz_placement.specs.Limits.{HasRoom}
use Rattle.vz_hit.specs.declared.region.Region.{Region}
use Rattle.vz_hit.specs.Regions.{found}

-- what is hit at each point of the display
abbrev pub Answer : Type 0
Answer = Point → Target

-- an answer inside a window, and none outside
abbrev pub in_window : Rectangle → Answer → Answer
in_window window answer p = if has window p then answer p else None

-- at each point the new regions answer what the old ones do, and this if those answer nothing
pub record Adds (old new : List Region) (answer : Answer) : Type 0 where
  pub answers : (p : Point) → found new p ≡ or_else (found old p) (answer p)

-- a surface whose regions are put: after the surfaces of a path, with so many surfaces left, and what moves a point of the
-- display to its root pass
pub record Stand : Type 0 where
  pub active : List FrameData
  pub levels : ℕ
  pub path : List SurfaceId
  pub seen : FrameData
  pub shift : Point

-- a store keeps what it always does, the surface's frame is whole, and the shift is within 52,000,000 of the origin
pub record IsStanding (st : Stored) (seen : FrameData) (shift : Point) : Type 0 where
  pub keeps : KeepsStored st
  pub frames : KeepsFrames st
  pub whole : IsWhole seen
  pub near : HasRoom 0 shift

-- the surface itself
abbrev pub own : Stand → Answer
own s p = Some (s.seen.id, plus p s.shift)

-- what ranges answer at this point of the display
abbrev pub ranges_of : Stand → Point → HitRange
ranges_of s p = range_hit (own s p) (hit s.levels s.active) s.active s.path

-- what the passes before a place answer by their ids at this point of the display
abbrev pub named_of : Stand → ℕ → Point → HitNamed
named_of s k p = groups_hit (own s p) (ranges_of s p) (reverse (take k s.seen.frame.passes))

-- quads of the pass at a place, which a shift moves to the display
abbrev pub quads_of : Stand → ℕ → RenderPass → List DrawQuad → Point → Answer
quads_of s k pass quads by p = quads_hit (own s p) (named_of s k p) (ranges_of s p) pass quads (minus p by)

-- what a quad of the pass at a place draws, which a shift moves to the display
abbrev pub material_of : Stand → ℕ → Material → Point → Answer
material_of s k material by p =
    elim material [
      | Pass id ↦ named_of s k p id (minus p by)
      | Surface range background ↦ ranges_of s p range (minus p by)
      | _ ↦ own s p
    ]

-- a pass that a quad names, if one is given, over those before a place; a shift moves the quad's first point to the display
abbrev pub group_in : Stand → ℕ → Point → Option RenderPass → Answer
group_in s k by None p = None
group_in s k by (Some pass) p = group_hit (own s p) (named_of s k p) (ranges_of s p) pass (plus (minus p by) (corner pass.output))

-- the pass at a place that a quad names, if one is given
abbrev pub group_at : Stand → Point → Option ℕ → Answer
group_at s by None p = None
group_at s by (Some k) p = group_in s k by (slice_get s.seen.frame.passes k) p

-- a range, whose first point a shift moves to the display
abbrev pub range_of : Stand → SurfaceRange → Point → Answer
range_of s range by p = ranges_of s p range (minus p by)

-- a surface that a range shows
abbrev pub shown_of : Stand → SurfaceRange → FrameData → Point → Answer
shown_of s range i by p = shown_hit (own s p) (hit s.levels s.active) s.path range i (minus p by)

-- its gutter: outside its size the embedding surface, unless it is the range's end
abbrev pub gutter_of : Stand → SurfaceRange → FrameData → Point → Answer
gutter_of s range i by p =
    elim (has (sized (frame_size i.frame)) (minus p by)) [
      | true ↦ None
      | false ↦ elim (same_surface i.id range.end) [ true ↦ None | false ↦ own s p ]
    ]

-- a surface that is entered, after the surfaces of a path and with so many surfaces left
abbrev pub entered : ℕ → List FrameData → List SurfaceId → FrameData → Point → Answer
entered levels active path i by p = hit levels active path i (minus p by)
