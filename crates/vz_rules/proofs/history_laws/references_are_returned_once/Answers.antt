use Rattle.vz_rules.proofs.Once.{returns_once}
use Rattle.vz_rules.proofs.history_laws.references_are_returned_once.Goals as goal

pub returns : goal.returns
returns c = returns_once
