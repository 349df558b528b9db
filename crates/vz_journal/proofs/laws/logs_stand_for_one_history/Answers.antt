use Rattle.vz_journal.proofs.Found.{one_value}
use Rattle.vz_journal.proofs.laws.logs_stand_for_one_history.Goals as goal

pub returns : goal.returns
returns c = one_value
