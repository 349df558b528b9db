use Rattle.vz_rules.proofs.Taken.{taken_are, taken_in_order}
use Rattle.vz_rules.proofs.history_laws.messages_are_taken_in_order.Goals as goal

pub returns : goal.returns
returns c = record { count = taken_are; order = taken_in_order }
