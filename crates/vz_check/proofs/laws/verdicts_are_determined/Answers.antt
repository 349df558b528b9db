use Rattle.vz_check.proofs.Once.{one_verdict}
use Rattle.vz_check.proofs.laws.verdicts_are_determined.Goals as goal

pub returns : goal.returns
returns c = one_verdict
