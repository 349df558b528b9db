use Rattle.vz_rules.proofs.Kept_few.{lists_short}
use Rattle.vz_rules.proofs.kept_laws.lists_are_short.Goals as goal

pub returns : goal.returns
returns c = lists_short
