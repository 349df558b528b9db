use Rattle.vz_geom.proofs.Sets.{has_moved_is}
use Rattle.vz_geom.proofs.Algebra.{moved_meet}
use Rattle.vz_geom.proofs.Bounds.{moved_join, moved_bound}
use Rattle.vz_geom.proofs.laws.translations.Goals as goal

pub returns : goal.returns
returns c = record { points = has_moved_is; intersection = moved_meet; join = moved_join; bound = moved_bound }
