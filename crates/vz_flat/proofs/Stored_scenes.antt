-- That what can be seen of the machine's state is what a store shows that stands for it.
use Rattle.std.proofs.{Common.◌≡◌, Common.Some, Common.arith, lemmas.Bool.Decides.nat_tests}
use Rattle.vz_rules.specs.{World.World, World.Scene, World.active_frames, Scene.scene_of, Kept.KeepsAlways}
use Rattle.vz_surfaces.specs.{Stored.stored_of, Reading.seen_frames}

pub scene_is_stored : ((w : World) → KeepsAlways w → seen_frames (stored_of w) ≡ active_frames w.subs) → (w : World) (scene : Scene)
    → KeepsAlways w → scene_of w ≡ Some scene → ◌≡◌ {A = Scene} (record { root = scene.root; active = seen_frames (stored_of w) }) scene
unfolding scene_of
scene_is_stored seen_all w scene keeps e = grind (arith, nat_tests)
