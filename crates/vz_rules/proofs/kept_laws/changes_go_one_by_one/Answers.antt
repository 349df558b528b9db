use Rattle.vz_rules.proofs.Kept_rounds.{round_singly}
use Rattle.vz_rules.proofs.Kept_goes.{clearing_singly}
use Rattle.vz_rules.proofs.kept_laws.changes_go_one_by_one.Goals as goal

pub returns : goal.returns
returns c = record { round = round_singly; clearing = clearing_singly }
