use Rattle.vz_sinks.proofs.Same_seats.{refused_as}
use Rattle.vz_sinks.proofs.laws.refusals_are_those.Goals as goal

pub returns : goal.returns
returns c = refused_as
