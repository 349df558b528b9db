use Rattle.vz_geom.proofs.Bounds.{covers_of_test, test_of_covers}
use Rattle.vz_geom.proofs.laws.coverings.Goals as goal

pub returns : goal.returns
returns c outer inner = (covers_of_test outer inner, test_of_covers outer inner)
