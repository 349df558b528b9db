use Rattle.vz_occlude.proofs.Painted.{thinned_same}
use Rattle.vz_occlude.proofs.picture.FlatPicturePicture.occlude.Goals as goal

pub returns-clause-pictured : goal.returns-clause-pictured
returns-clause-pictured c =
    thinned_same c.args.self c.occlude.result c.occlude.ensures.size c.occlude.ensures.damage c.occlude.ensures.same
