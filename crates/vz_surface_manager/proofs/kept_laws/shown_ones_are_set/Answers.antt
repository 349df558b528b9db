use Rattle.vz_surface_manager.proofs.Rooted.{shown_set}
use Rattle.vz_surface_manager.proofs.kept_laws.shown_ones_are_set.Goals as goal

pub returns : goal.returns
returns c = shown_set
