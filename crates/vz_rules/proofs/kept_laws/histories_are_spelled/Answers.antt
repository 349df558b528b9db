use Rattle.vz_rules.proofs.Kept_spelled.{legal_spelled}
use Rattle.vz_rules.proofs.kept_laws.histories_are_spelled.Goals as goal

pub returns : goal.returns
returns c = legal_spelled
