use Rattle.vz_journal.proofs.Found.{none_behind}
use Rattle.vz_journal.proofs.laws.no_log_begins_another.Goals as goal

pub returns : goal.returns
returns c = none_behind
