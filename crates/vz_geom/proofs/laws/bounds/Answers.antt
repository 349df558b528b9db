use Rattle.vz_geom.proofs.Bounds.{bound_covers, bound_is_least}
use Rattle.vz_geom.proofs.Proper.{bound_is_proper}
use Rattle.vz_geom.proofs.laws.bounds.Goals as goal

pub returns : goal.returns
returns c = record { covers = bound_covers; least = bound_is_least; proper = bound_is_proper }
