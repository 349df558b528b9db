use Rattle.vz_surface_manager.proofs.Risen_kept.{kept_rising}
use Rattle.vz_surface_manager.proofs.kept_laws.ranges_follow.Goals as goal

pub returns : goal.returns
returns c = λ w but s r h there waits kept. kept_rising w but s r h there waits kept
