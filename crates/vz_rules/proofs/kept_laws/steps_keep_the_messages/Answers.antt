use Rattle.vz_rules.proofs.Kept_sending.{messages_first, messages_step, messages_world}
use Rattle.vz_rules.proofs.kept_laws.steps_keep_the_messages.Goals as goal

pub returns : goal.returns
returns c = record { opening = messages_first; step = messages_step; history = messages_world }
