use Rattle.vz_rules.proofs.Unchanged.{refusal_is_all, refused_entry}
use Rattle.vz_rules.proofs.history_laws.refusals_change_nothing.Goals as goal

pub returns : goal.returns
returns c = record { steps = refusal_is_all; entries = refused_entry }
