use Rattle.vz_returns.proofs.Kept.{accepted_unfed, marked_unfed}
use Rattle.vz_returns.proofs.laws.unfed_are_those.Goals as goal

pub returns-clause-accepted : goal.returns-clause-accepted
returns-clause-accepted c = accepted_unfed

pub returns-clause-marked : goal.returns-clause-marked
returns-clause-marked c = marked_unfed
