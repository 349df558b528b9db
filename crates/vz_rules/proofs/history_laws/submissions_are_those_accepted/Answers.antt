use Rattle.vz_rules.proofs.Acceptances.{acceptances_count, acceptances_are}
use Rattle.vz_rules.proofs.history_laws.submissions_are_those_accepted.Goals as goal

pub returns : goal.returns
returns c = record { count = acceptances_count; order = acceptances_are }
