-- What is drawn of a store's root.
use Rattle.std.proofs.Common.{◌≡◌, true, false, Option, Some, None, List, [], ◌++◌, ap, sym, ◌∙◌, append-nil, arith}
use Rattle.vz_geom.specs.{declared.Point.Point, declared.Size.Size, Rectangle.Rectangle, Rectangle.is_empty_rect, Rectangle.has, Rectangle.sized}
use Rattle.vz_ids.specs.declared.SurfaceId.{SurfaceId}
use Rattle.vz_pixels.specs.Colour.{black}
use Rattle.vz_rules.specs.{World.FrameData, World.Scene, Kept.IsWhole, Paint.full, Walk.Placement, Walk.walk_of, Walk.whole, Walk.too_much}
use Rattle.vz_surfaces.specs.{Stored.Stored, Reading.seen_frames, Reading.active_on, Keeping.KeepsFrames}
use Rattle.vz_flat.specs.{declared.op.Op.Op, Ops.value, Ops.is_whole, Parts.seen_flat, Parts.surface_place, Flat.flat, Flat.scene_flat}
use Rattle.vz_flat.proofs.{Flat_sound.frame_there, Flat_sound.flat_is_whole, Wholes.frame_whole, Flat_steps.frame_of, Drawn.flat_is_painted}
use Rattle.std.proofs.{lemmas.Bool.Decides.nat_tests, lemmas.Grind.common_steps}

-- the scene of a store with this root
abbrev pub scene_in : Stored → SurfaceId → Scene
scene_in st root = record { root = root; active = seen_frames st }

pub root_whole : (st : Stored) (root : SurfaceId) (i : FrameData) → KeepsFrames st → active_on st root ≡ Some i → IsWhole i
unfolding active_on
root_whole st root i keeps e = frame_of st i keeps (frame_there root (seen_frames st) i e)

scene_by : (size : Size) (st : Stored) (root : SurfaceId) (s : Option FrameData) → active_on st root ≡ s
    → scene_flat size (scene_in st root)
    ≡ elim s [ None ↦ [] | Some i ↦ seen_flat (surface_place i (whole size)).window (flat 64 (seen_frames st) [] i (surface_place i (whole size))) ]
unfolding scene_flat active_on
scene_by size st root s e = grind (arith, nat_tests)

pub none_drawn : (size : Size) (st : Stored) (root : SurfaceId) (ops : List Op) → active_on st root ≡ None
    → ops ≡ ops ++ scene_flat size (scene_in st root)
none_drawn size st root ops e = sym (ap (λ l. ops ++ l) (scene_by size st root None e) ∙ append-nil ops)

pub nothing_drawn : (size : Size) (st : Stored) (root : SurfaceId) (ops : List Op) (i : FrameData) (place at_root : Placement) (window : Rectangle)
    → active_on st root ≡ Some i
    → at_root ≡ whole size → place ≡ surface_place i at_root → window ≡ place.window → is_empty_rect window ≡ true
    → ops ≡ ops ++ scene_flat size (scene_in st root)
nothing_drawn size st root ops i place at_root window e f g h empty = grind (arith, nat_tests, common_steps, scene_by size st root (Some i) e)

pub root_drawn : (size : Size) (st : Stored) (root : SurfaceId) (old new : List Op) (i : FrameData) (place at_root : Placement) (window : Rectangle)
    → active_on st root ≡ Some i
    → at_root ≡ whole size → place ≡ surface_place i at_root → window ≡ place.window → is_empty_rect window ≡ false
    → new ≡ old ++ flat 64 (seen_frames st) [] i place → new ≡ old ++ scene_flat size (scene_in st root)
root_drawn size st root old new i place at_root window e f g h some is = grind (arith, nat_tests, scene_by size st root (Some i) e)

-- a list that has what is drawn behind an empty list
pub from_empty : (size : Size) (st : Stored) (root : SurfaceId) (first list : List Op) → first ≡ []
    → list ≡ first ++ scene_flat size (scene_in st root) → list ≡ scene_flat size (scene_in st root)
from_empty size st root first list e f = f ∙ ap (λ l. l ++ scene_flat size (scene_in st root)) e

-- a store's operations are whole
pub scene_is_whole : (size : Size) (st : Stored) (root : SurfaceId) (list : List Op) → KeepsFrames st
    → list ≡ scene_flat size (scene_in st root) → is_whole list ≡ true
scene_is_whole size st root list keeps e =
    ap is_whole e ∙ flat_is_whole size (scene_in st root) (λ i c. frame_whole i (frame_of st i keeps c))

-- and leave what painting leaves
pub scene_is_painted : (size : Size) (st : Stored) (root : SurfaceId) (list ops : List Op) (p : Point)
    → too_much (walk_of size (scene_in st root)) ≡ false → has (sized size) p ≡ true
    → list ≡ scene_flat size (scene_in st root) → ops ≡ list → value ops p black ≡ full (scene_in st root) p
scene_is_painted size st root list ops p bounded inside e f = grind (arith, nat_tests, flat_is_painted size)
