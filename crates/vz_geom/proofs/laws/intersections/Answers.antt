use Rattle.vz_geom.proofs.Sets.{has_meet_is}
use Rattle.vz_geom.proofs.Algebra.{meet_comm, meet_assoc}
use Rattle.vz_geom.proofs.Bounds.{meet_grows}
use Rattle.vz_geom.proofs.Proper.{meet_is_proper}
use Rattle.vz_geom.proofs.laws.intersections.Goals as goal

pub returns : goal.returns
returns c = record { commutative = meet_comm; associative = meet_assoc; monotone = meet_grows; points = has_meet_is; proper = meet_is_proper }
