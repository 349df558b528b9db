-- Where a walk is, and which visits it makes from there.
use Rattle.std.specs.Prelude.{◌≡◌, ℕ, ◌+◌, true, false, Option, Some, None, List, [], ◌∷◌, take, reverse, length, slice_get}
use Rattle.vz_base.specs.declared.limits.TheConstants.{MOST_ON_PATH}
use Rattle.vz_geom.specs.Rectangle.{minus, corner}
use Rattle.vz_ids.specs.declared.SurfaceId.{SurfaceId}
use Rattle.vz_frame.specs.declared.frame.CompositorFrame.{CompositorFrame}
use Rattle.vz_frame.specs.declared.frame.RenderPass.{RenderPass}
use Rattle.vz_frame.specs.declared.frame.DrawQuad.{DrawQuad}
use Rattle.vz_rules.specs.World.{FrameData}
use Rattle.vz_rules.specs.Walk.{Placement, Visit, Enters, WalkRange, WalkNamed, quad_walked, pass_walked, groups_walked, range_walked, walk}
use Rattle.vz_rules.specs.Paint.{on_path}
use Rattle.vz_surfaces.specs.Stored.{Stored}
use Rattle.vz_surfaces.specs.Keeping.{KeepsStored, KeepsFrames}
use Rattle.vz_placement.specs.Limits.{FitsFile}
use Rattle.vz_walk.specs.declared.path.Path.{Path}
use Rattle.vz_walk.specs.declared.path.Path.{Start, Behind'}

-- the surfaces of a path, the last one first
abbrev pub ids : Path → List SurfaceId
ids Start = []
ids (Behind' id p before) = id ∷ ids before

-- where a walk is: in a frame, with the surfaces of a path above it, and how many more the path
-- may have
pub record Stand : Type 0 where
  pub active : List FrameData
  pub levels : ℕ
  pub path : List SurfaceId
  pub frame : CompositorFrame

-- everything holds that always holds of a store, the frame fits, and the path and what it may
-- still have are within the limit
pub record IsStanding (st : Stored) (levels : ℕ) (path : List SurfaceId) (frame : CompositorFrame) : Type 0 where
  pub keeps : KeepsStored st
  pub frames : KeepsFrames st
  pub deep : length path + levels ≡ MOST_ON_PATH + 1
  pub fits : FitsFile frame

-- the visits at a range here
abbrev pub ranges_of : Stand → WalkRange
ranges_of it = range_walked (walk it.levels it.active) it.active it.path

-- the visits in the passes before a place of the frame, by their ids
abbrev pub named_of : Stand → ℕ → WalkNamed
named_of it k = groups_walked (ranges_of it) (reverse (take k it.frame.passes))

-- the visits at a quad of the pass at a place of the frame
abbrev pub quad_of : Stand → ℕ → RenderPass → Placement → DrawQuad → List Visit
quad_of it k pass place quad = quad_walked (named_of it k) (ranges_of it) pass place quad

-- the visits in a pass, if there is one, with the passes before a place to draw
abbrev pub pass_in : WalkRange → List RenderPass → ℕ → Placement → Option RenderPass → List Visit
pass_in ranges passes k place None = []
pass_in ranges passes k place (Some pass) = pass_walked (groups_walked ranges (reverse (take k passes))) ranges pass place

-- the visits in the pass at a place of the frame
abbrev pub pass_of : Stand → ℕ → Placement → List Visit
pass_of it k place = pass_in (ranges_of it) it.frame.passes k place (slice_get it.frame.passes k)

-- the visits in a pass that is drawn as a group, if there is one
abbrev pub group_in : WalkRange → List RenderPass → ℕ → Placement → Option RenderPass → List Visit
group_in ranges passes k place None = []
group_in ranges passes k place (Some pass) = pass_in ranges passes k (record place { shift = minus place.shift (corner pass.output) })
    (Some pass)

-- the visits in the pass at a place of the frame, drawn as a group, if there is one
abbrev pub group_at : WalkRange → List RenderPass → Placement → Option ℕ → List Visit
group_at ranges passes place None = []
group_at ranges passes place (Some k) = group_in ranges passes k place (slice_get passes k)

-- the visits at a surface that a range shows here; none if it is on the path
abbrev pub shown_at : Stand → FrameData → Placement → List Visit
shown_at it i place = elim (on_path it.path i) [
  | true ↦ []
  | false ↦ Enters
      (length it.path + 1) i place ∷ walk it.levels it.active it.path i place
]
