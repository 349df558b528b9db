use Rattle.vz_surface_manager.proofs.Kept_new.{kept_new}
use Rattle.vz_surface_manager.proofs.kept_laws.new_surfaces_last.Goals as goal

pub returns : goal.returns
returns c = kept_new
