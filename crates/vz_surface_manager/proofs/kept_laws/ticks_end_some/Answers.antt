use Rattle.vz_surface_manager.proofs.Ticked_kept.{kept_ticking}
use Rattle.vz_surface_manager.proofs.kept_laws.ticks_end_some.Goals as goal

pub returns : goal.returns
returns c = kept_ticking
