use Rattle.vz_sessions.proofs.Next_answers.{sent_step, sent_entry, idle_step}
use Rattle.vz_sessions.proofs.laws.sent_messages_are_answered.Goals as goal

pub returns : goal.returns
returns c = record { step = sent_step; entry = sent_entry; idle = idle_step }
