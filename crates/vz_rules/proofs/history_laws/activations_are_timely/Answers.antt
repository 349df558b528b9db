use Rattle.vz_rules.proofs.Timely.{activated_timely, waiting_uncome}
use Rattle.vz_rules.proofs.history_laws.activations_are_timely.Goals as goal

pub returns : goal.returns
returns c = record { activated = activated_timely; waiting = waiting_uncome }
