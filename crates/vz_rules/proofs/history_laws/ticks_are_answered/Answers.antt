use Rattle.vz_rules.proofs.Answered.{answered_is}
use Rattle.vz_rules.proofs.history_laws.ticks_are_answered.Goals as goal

pub returns : goal.returns
returns c = answered_is
