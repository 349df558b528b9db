use Rattle.vz_sinks.proofs.Same_seats.{opened_as, first_as}
use Rattle.vz_sinks.proofs.laws.openings_are_those.Goals as goal

pub returns-clause-seats : goal.returns-clause-seats
returns-clause-seats c = opened_as

pub returns-clause-first : goal.returns-clause-first
returns-clause-first c = first_as
