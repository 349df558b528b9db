-- A scene as a list of operations. It follows the recursion of painting, with the place of each
-- pass instead of a point.
use Rattle.std.specs.Prelude.{ℕ, zero, suc, Bool, true, false, ◌||◌, ◌==◌, Some, None, List, [], ◌∷◌, ◌++◌, if◌then◌else◌}
use Rattle.vz_base.specs.declared.limits.TheConstants.{MOST_ON_PATH}
use Rattle.vz_geom.specs.declared.Size.{Size}
use Rattle.vz_ids.specs.declared.SurfaceId.{SurfaceId}
use Rattle.vz_ids.specs.declared.SurfaceRange.{SurfaceRange}
use Rattle.vz_ids.specs.Ids.{same_surface}
use Rattle.vz_pixels.specs.Colour.{Colour}
use Rattle.vz_frame.specs.declared.frame.RenderPass.{RenderPass}
use Rattle.vz_frame.specs.declared.frame.DrawQuad.{DrawQuad}
use Rattle.vz_frame.specs.declared.blend.Blend.{Blend}
use Rattle.vz_frame.specs.declared.frame.Material.TheVariants.{Solid, Tile, Surface, Pass}
use Rattle.vz_frame.specs.Frame.{passes_down, names_pass}
use Rattle.vz_frame.specs.Blending.{is_straight}
use Rattle.vz_rules.specs.World.{FrameData, Scene, frame_on}
use Rattle.vz_rules.specs.Scene.{shown_frame}
use Rattle.vz_rules.specs.Paint.{on_path}
use Rattle.vz_rules.specs.Walk.{Placement, place_in, whole}
use Rattle.vz_flat.specs.declared.op.Op.{Op}
use Rattle.vz_flat.specs.declared.op.Op.TheVariants.{Fill}
use Rattle.vz_flat.specs.Parts.{seen_flat, grouped_flat, pass_part, inner_place, surface_place}
use Rattle.vz_flat.specs.Tiles.{tile_flat}
use Rattle.vz_flat.specs.Gutters.{gutter_flat}

-- the operations for a named pass, by its id, the mode, the opacity and the place
abbrev pub FlatNamed : Type 0
FlatNamed = ℕ → Blend → ℕ → Placement → List Op

-- the operations for a range, by the background, the mode, the opacity and the place
abbrev pub FlatRange : Type 0
FlatRange = SurfaceRange → Colour → Blend → ℕ → Placement → List Op

-- the operations for a surface, with the surfaces of a path above it
abbrev pub FlatContent : Type 0
FlatContent = List SurfaceId → FrameData → Placement → List Op

-- the operations for what a quad draws
unfoldable pub material_flat : FrameData → FlatNamed → FlatRange → DrawQuad → Placement → List Op
material_flat i named ranges quad place =
    elim quad.material [
      | Solid c ↦ Fill place.window c quad.opacity quad.blend ∷ []
      | Tile id tx ty ↦ tile_flat i id tx ty quad.blend quad.opacity place
      | Surface range background ↦ ranges range background quad.blend quad.opacity place
      | Pass id ↦ named id quad.blend quad.opacity place
    ]

-- the operations for a quad, if it is seen
abbrev pub quad_flat : FrameData → FlatNamed → FlatRange → DrawQuad → Placement → List Op
quad_flat i named ranges quad place = seen_flat place.window (material_flat i named ranges quad place)

-- the operations for quads, which are listed from front to back
unfoldable pub quads_flat : FrameData → FlatNamed → FlatRange → RenderPass → Placement → List DrawQuad → List Op
quads_flat i named ranges pass place [] = []
quads_flat i named ranges pass place (quad ∷ behind) =
    quads_flat i named ranges pass place behind ++ quad_flat i named ranges quad (place_in place pass quad)

-- the operations for a pass as a group
unfoldable pub group_flat : FrameData → FlatNamed → FlatRange → RenderPass → Blend → ℕ → Placement → List Op
group_flat i named ranges pass m o place =
    seen_flat (pass_part pass place) (grouped_flat (pass_part pass place) m o (quads_flat i named ranges pass place pass.quads))

-- the operations for the passes of a frame, by their ids; each pass may draw earlier ones
unfoldable pub groups_flat : FrameData → FlatRange → List RenderPass → FlatNamed
groups_flat i ranges [] id m o place = []
groups_flat i ranges (pass ∷ earlier) id m o place =
    elim (names_pass id pass) [
      | true ↦ group_flat i (groups_flat i ranges earlier) ranges pass m o (inner_place pass place)
      | false ↦ groups_flat i ranges earlier id m o place
    ]

-- the operations for the root pass, which may draw the earlier ones
unfoldable pub root_flat : FrameData → FlatRange → List RenderPass → Placement → List Op
root_flat i ranges [] place = []
root_flat i ranges (root ∷ earlier) place = quads_flat i (groups_flat i ranges earlier) ranges root place root.quads

-- the operations for the background round a surface, and then for the surface
unfoldable pub content_flat : FlatContent → List SurfaceId → SurfaceRange → Colour → FrameData → Placement → List Op
content_flat content path range b i place =
    gutter_flat range b i place ++ seen_flat (surface_place i place).window (content path i (surface_place i place))

-- the place in which the content is not absent: the surface's own rectangle if it is the range's
-- end
unfoldable pub present_place : SurfaceRange → FrameData → Placement → Placement
present_place range i place = if same_surface i.id range.end then surface_place i place else place

-- directly in mode Over at opacity 255, and otherwise as a group
unfoldable pub laid_flat : List Op → Blend → ℕ → Placement → List Op
laid_flat body m o place = elim (is_straight m o) [ true ↦ body | false ↦ grouped_flat place.window m o body ]

-- the operations for a shown surface, inside the place in which its content is not absent
abbrev pub shown_flat : FlatContent → List SurfaceId → SurfaceRange → Colour → Blend → ℕ → Placement → FrameData → List Op
shown_flat content path range b m o place i =
    seen_flat (present_place range i place).window
    (laid_flat (content_flat content path range b i place) m o (present_place range i place))

-- the operations for a range, with the surfaces of a path above it; if the path is full, none for
-- a surface
unfoldable pub range_flat : Bool → FlatContent → List FrameData → List SurfaceId → FlatRange
range_flat ends content active path range b m o place =
    elim (shown_frame active range) [
      | None ↦ Fill place.window b o m ∷ []
      | Some i ↦ elim (ends || on_path path i) [ true ↦ [] | false ↦ shown_flat content path range b m o place i ]
    ]

-- the operations for a surface, with the surfaces of a path above it and so many more allowed
unfoldable pub flat : ℕ → List FrameData → FlatContent
flat zero active path i place = []
flat (suc n) active path i place = root_flat i (range_flat (n == 0) (flat n active) active (i.id ∷ path)) (passes_down i.frame) place

-- the operations for a scene: those of the root, with no more surfaces on a path than the limit
unfoldable pub scene_flat : Size → Scene → List Op
scene_flat size scene =
    elim (frame_on scene.root scene.active) [
      | None ↦ []
      | Some i ↦ seen_flat (surface_place i (whole size)).window (flat MOST_ON_PATH scene.active [] i (surface_place i (whole size)))
    ]
