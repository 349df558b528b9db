use Rattle.vz_surface_manager.proofs.Stored.{told_first}
use Rattle.vz_surface_manager.proofs.damage_laws.damages_open.Goals as goal

pub returns : goal.returns
returns c = told_first
