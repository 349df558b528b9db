use Rattle.vz_flat.proofs.Drawn.{flat_is_painted}
use Rattle.vz_flat.proofs.laws.flat_is_painted.Goals as goal

pub returns : goal.returns
returns c = flat_is_painted
