use Rattle.vz_surfaces.proofs.Telling.{seen_all}
use Rattle.vz_surface_manager.proofs.Drawn_flights.{flown_drawn, flown_active}
use Rattle.vz_surface_manager.proofs.flight_laws.flights_are_drawn.Goals as goal

pub returns-clause-drawn : goal.returns-clause-drawn
returns-clause-drawn c p w root damage keeps draws e = flown_drawn p w root draws (seen_all w keeps) damage e

pub returns-clause-active : goal.returns-clause-active
returns-clause-active c w root size f keeps there = flown_active w (seen_all w keeps) size root f there
