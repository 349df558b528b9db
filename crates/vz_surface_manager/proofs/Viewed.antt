-- What can be seen from a root.
use Rattle.std.proofs.Common.{◌≡◌, Option, Some, None, ap, arith}
use Rattle.std.specs.Option.{option_and_then}
use Rattle.vz_ids.specs.declared.SurfaceId.{SurfaceId}
use Rattle.vz_rules.specs.World.{World, Scene, FrameData, active_frames, frame_on}
use Rattle.vz_rules.specs.Scene.{scene_at, scene_of}
use Rattle.vz_damage.specs.Accepted.{scene_from}
use Rattle.std.proofs.lemmas.Bool.Decides.{nat_tests}

pub rootless : (w : World) → w.root ≡ None → scene_of w ≡ None
unfolding scene_of
rootless w e = ap (λ (o : Option SurfaceId). option_and_then (λ (root : SurfaceId). scene_at root (active_frames w.subs)) o) e

-- by the frame that is found on the root
abbrev by_frame : SurfaceId → World → Option FrameData → Option Scene
by_frame root w o = elim o [ Some i ↦ Some (scene_from root w) | None ↦ None ]

scene_by : (w : World) (root : SurfaceId) (o : Option FrameData) → w.root ≡ Some root → frame_on root (active_frames w.subs) ≡ o
    → scene_of w ≡ by_frame root w o
unfolding scene_of
scene_by w root o e f = grind (arith, nat_tests)

pub unseen_root : (w : World) (root : SurfaceId) → w.root ≡ Some root → frame_on root (active_frames w.subs) ≡ None → scene_of w ≡ None
unseen_root w root e f = scene_by w root None e f

pub seen_root : (w : World) (root : SurfaceId) (i : FrameData) → w.root ≡ Some root → frame_on root (active_frames w.subs) ≡ Some i
    → scene_of w ≡ Some (scene_from root w)
seen_root w root i e f = scene_by w root (Some i) e f
