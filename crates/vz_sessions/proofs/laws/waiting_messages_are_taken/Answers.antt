use Rattle.vz_sessions.proofs.Next_answers.{next_sent}
use Rattle.vz_sessions.proofs.Waiting_taken.{message_stays, waiting_answered, session_order, session_count}
use Rattle.vz_sessions.proofs.laws.waiting_messages_are_taken.Goals as goal

pub returns : goal.returns
returns c = record { place = next_sent; stays = message_stays; waits = waiting_answered; order = session_order; count = session_count }
