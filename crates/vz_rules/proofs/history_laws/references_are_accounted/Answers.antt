use Rattle.vz_rules.proofs.Accounted.{accounts_are}
use Rattle.vz_rules.proofs.history_laws.references_are_accounted.Goals as goal

pub returns : goal.returns
returns c = accounts_are
