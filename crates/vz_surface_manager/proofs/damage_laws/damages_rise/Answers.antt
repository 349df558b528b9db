use Rattle.vz_surface_manager.proofs.Raised.{told_raised}
use Rattle.vz_surface_manager.proofs.damage_laws.damages_rise.Goals as goal

pub returns : goal.returns
returns c w s old new keeps there waits = told_raised w s keeps there waits old new
