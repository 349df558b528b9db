use Rattle.std.proofs.Common.{sym}
use Rattle.vz_journal.proofs.Found.{found_again}
use Rattle.vz_journal.proofs.laws.reading_undoes_writing.Goals as goal

pub returns : goal.returns
returns c = record { found = found_again; again = λ bytes h rest log. sym log.1 }
