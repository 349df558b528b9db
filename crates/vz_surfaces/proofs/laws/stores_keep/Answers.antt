use Rattle.vz_surfaces.proofs.Kept_of_world.{keeps_of_world}
use Rattle.vz_surfaces.proofs.Seeing.{frames_of_world}
use Rattle.vz_surfaces.proofs.laws.stores_keep.Goals as goal

pub returns-clause-always : goal.returns-clause-always
returns-clause-always c = keeps_of_world

pub returns-clause-frames : goal.returns-clause-frames
returns-clause-frames c = frames_of_world
