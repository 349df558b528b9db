-- Which surface is being flattened, and with what around it.
use Rattle.std.specs.Prelude.{◌==◌, ℕ, Option, Some, None, List, [], take, reverse, slice_get}
use Rattle.vz_ids.specs.declared.SurfaceId.{SurfaceId}
use Rattle.vz_frame.specs.declared.frame.RenderPass.{RenderPass}
use Rattle.vz_frame.specs.declared.frame.DrawQuad.{DrawQuad}
use Rattle.vz_frame.specs.declared.blend.Blend.{Blend}
use Rattle.vz_rules.specs.World.{FrameData}
use Rattle.vz_rules.specs.Walk.{Placement}
use Rattle.vz_flat.specs.declared.op.Op.{Op}
use Rattle.vz_flat.specs.Parts.{inner_place}
use Rattle.vz_flat.specs.Flat.{FlatNamed, FlatRange, FlatContent, material_flat, quads_flat, group_flat, groups_flat, range_flat, flat}

-- a surface whose frame is being flattened, with the surfaces of the path above it, and how many
-- more the path may have
pub record Stand : Type 0 where
  pub active : List FrameData
  pub levels : ℕ
  pub path : List SurfaceId
  pub seen : FrameData

-- the operations for a surface that is embedded here
abbrev pub embedded : Stand → FlatContent
embedded s = flat s.levels s.active

-- the operations for a range here
abbrev pub ranges_of : Stand → FlatRange
ranges_of s = range_flat (s.levels == 0) (embedded s) s.active s.path

-- the operations for these passes here, by their ids
abbrev pub passes_in : Stand → List RenderPass → FlatNamed
passes_in s passes = groups_flat s.seen (ranges_of s) (reverse passes)

-- the operations for what a quad draws here, with these passes to draw
abbrev pub material_here : Stand → List RenderPass → DrawQuad → Placement → List Op
material_here s earlier quad place = material_flat s.seen (passes_in s earlier) (ranges_of s) quad place

-- the operations for quads of a pass here, with these passes to draw
abbrev pub quads_here : Stand → List RenderPass → RenderPass → Placement → List DrawQuad → List Op
quads_here s earlier pass place quads = quads_flat s.seen (passes_in s earlier) (ranges_of s) pass place quads

-- the operations for a pass as a group here, with these passes to draw
abbrev pub group_here : Stand → List RenderPass → RenderPass → Blend → ℕ → Placement → List Op
group_here s earlier pass m o place = group_flat s.seen (passes_in s earlier) (ranges_of s) pass m o place

-- the passes before this place in the frame
abbrev pub earlier_of : Stand → ℕ → List RenderPass
earlier_of s k = take k s.seen.frame.passes

-- the operations for a pass as a group here, if there is one, with the passes before a place to
-- draw
abbrev pub group_in : Stand → ℕ → Blend → ℕ → Placement → Option RenderPass → List Op
group_in s k m o place None = []
group_in s k m o place (Some pass) = group_here s (earlier_of s k) pass m o (inner_place pass place)

-- the operations for the pass at a place as a group here, if there is one
abbrev pub group_at : Stand → Blend → ℕ → Placement → Option ℕ → List Op
group_at s m o place None = []
group_at s m o place (Some k) = group_in s k m o place (slice_get s.seen.frame.passes k)
