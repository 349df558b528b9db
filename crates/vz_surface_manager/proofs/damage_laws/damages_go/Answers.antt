use Rattle.vz_surface_manager.proofs.Told_gone.{told_gone}
use Rattle.vz_surface_manager.proofs.damage_laws.damages_go.Goals as goal

pub returns : goal.returns
returns c = told_gone
