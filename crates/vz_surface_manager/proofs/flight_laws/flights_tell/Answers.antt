use Rattle.vz_surface_manager.proofs.Flights_kept.{flown_flies, flown_some, flown_names, flown_listed}
use Rattle.vz_surface_manager.proofs.flight_laws.flights_tell.Goals as goal

pub returns-clause-flies : goal.returns-clause-flies
returns-clause-flies c = flown_flies

pub returns-clause-some : goal.returns-clause-some
returns-clause-some c = flown_some

pub returns-clause-names : goal.returns-clause-names
returns-clause-names c = flown_names

pub returns-clause-listed : goal.returns-clause-listed
returns-clause-listed c = flown_listed
