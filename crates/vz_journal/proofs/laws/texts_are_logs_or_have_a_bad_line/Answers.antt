use Rattle.vz_journal.proofs.Found.{verdict, never_both, one_bad_line}
use Rattle.vz_journal.proofs.laws.texts_are_logs_or_have_a_bad_line.Goals as goal

pub returns : goal.returns
returns c = record { each = verdict; apart = never_both; one = one_bad_line }
