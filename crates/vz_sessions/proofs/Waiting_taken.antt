-- A message that waits is taken in its turn, whatever is sent behind it.
use Rattle.std.proofs.Common.{◌≡◌, ℕ, Some, [], slice_get}
use Rattle.vz_frame.specs.declared.message.Message.{Message}
use Rattle.vz_rules.specs.Plan.{Plan}
use Rattle.vz_rules.specs.declared.entry.Event.TheVariants as event
use Rattle.vz_rules.specs.declared.entry.Entry.{Entry}
use Rattle.vz_rules.specs.World.{World, Client, client_at, next_message}
use Rattle.vz_rules.specs.Step.{outcome_of, step_in, world}
use Rattle.vz_rules.specs.Accounts.{message_at, answer_for, takes, taken_in, IsTaking}
use Rattle.vz_rules.proofs.Taken.{taken_are, taken_in_order}
use Rattle.std.specs.Prelude.{length}
use Rattle.vz_sessions.specs.Grown.{grown}
use Rattle.vz_sessions.specs.Session.{Session, IsSession}
use Rattle.vz_sessions.proofs.Grown_goes_on.{goes_on}
use Rattle.vz_sessions.proofs.Next_answers.{step_next}

-- each message stays at its place
pub message_stays : (p : Plan) (c d k : ℕ) (m n : Message) → message_at p c k ≡ Some n → message_at (grown p d m) c k ≡ Some n
message_stays p c d k m n at = (goes_on p d m).messages c k n at

-- the client's next event answers the message that waits, whichever client sends one more
pub waiting_answered : (p : Plan) (w : World) (c d : ℕ) (x : Client) (m n : Message) → client_at w c ≡ Some x → next_message p x ≡ Some n
    → step_in (grown p d m) w (event.Client c) ≡ outcome_of [] (answer_for w x n)
waiting_answered p w c d x m n found next = step_next (grown p d m) w c x n found (message_stays p x.number d x.taken m n next)

-- in a session, the entries at which a client takes a message answer its messages in the order in which it sent them
pub session_order : (s : Session) (c k : ℕ) (e : Entry) → IsSession s → slice_get (takes s.told c) k ≡ Some e → IsTaking s.plan s.told c k e
session_order s c k e is at = taken_in_order s.plan s.told c k e is.legal at

pub session_count : (s : Session) (c : ℕ) → IsSession s → taken_in (world s.plan s.told) c ≡ length (takes s.told c)
session_count s c is = taken_are s.plan s.told c is.legal
