use Rattle.vz_surface_manager.proofs.Sets_kept.{kept_opening}
use Rattle.vz_surface_manager.proofs.kept_laws.nothing_is_kept.Goals as goal

pub returns : goal.returns
returns c = kept_opening
