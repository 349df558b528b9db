use Rattle.vz_surface_manager.proofs.Flights_kept.{flown_opening, flown_done, flown_none}
use Rattle.vz_surface_manager.proofs.flight_laws.flights_land.Goals as goal

pub returns-clause-opening : goal.returns-clause-opening
returns-clause-opening c = flown_opening

pub returns-clause-done : goal.returns-clause-done
returns-clause-done c = flown_done

pub returns-clause-none : goal.returns-clause-none
returns-clause-none c = flown_none
