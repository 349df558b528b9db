use Rattle.vz_geom.proofs.Areas.{length_points, once}
use Rattle.vz_geom.proofs.laws.areas.Goals as goal

pub returns : goal.returns
returns c = record { count = length_points; once = once }
