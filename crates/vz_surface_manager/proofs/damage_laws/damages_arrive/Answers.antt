use Rattle.vz_surface_manager.proofs.Told_accepted.{told_accepted, next_accepted, next_stored}
use Rattle.vz_surface_manager.proofs.damage_laws.damages_arrive.Goals as goal

pub returns-clause-told : goal.returns-clause-told
returns-clause-told c w x local frame old new keeps allowed = told_accepted w x local frame keeps allowed old new

pub returns-clause-index : goal.returns-clause-index
returns-clause-index c w x local frame d keeps allowed = next_accepted w x local frame keeps allowed d

pub returns-clause-stored : goal.returns-clause-stored
returns-clause-stored c w x local frame d keeps allowed = next_stored w x local frame keeps allowed d
