use Rattle.vz_rules.proofs.Told.{told_once}
use Rattle.vz_rules.proofs.history_laws.feedback_is_given_once.Goals as goal

pub returns : goal.returns
returns c = told_once
