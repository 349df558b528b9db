use Rattle.vz_flat.proofs.Stored_scenes.{scene_is_stored}
use Rattle.vz_flat.proofs.laws.scenes_are_stored.Goals as goal

pub returns : goal.returns
returns c = scene_is_stored c.stores_tell.ensures.seen
