use Rattle.std.proofs.Common.{arith}
use Rattle.std.proofs.lemmas.Int.{ints}
use Rattle.vz_geom.proofs.Points.{same_point}
use Rattle.vz_placement.proofs.placement.plus.Goals as goal

pub returns : goal.returns
returns c = same_point (omega (arith, ints)) (omega (arith, ints))
