-- What the callers of a plan leave.
use Rattle.std.specs.Prelude.{◌≡◌, ℕ, ◌+◌, zero, suc, ◌≤◌, List, [], ◌∷◌, ◌++◌, length, Some}
use Rattle.atomic_table.specs.Seated.{TableId}
use Rattle.vz_loans.specs.Tokens.{Caller, unused, unused_from}
use Rattle.vz_outside.specs.Told.{Call, AreTold}
use Rattle.vz_frame.specs.declared.message.ClientFile.{ClientFile}
use Rattle.vz_rules.specs.Plan.{Plan, message_counts}
use Rattle.vz_rules.specs.World.{file_of}
use Rattle.vz_rules.specs.Step.{Legal}
use Rattle.vz_rules.specs.Course.{displayed}
use Rattle.vz_rules.specs.Whole.{mine}
use Rattle.vz_rules.specs.declared.entry.Entry.{Entry}
use Rattle.vz_rules.specs.declared.entry.Event.{Event}
use Rattle.vz_rules.specs.declared.entry.Event.TheVariants as event
use Rattle.vz_callers.specs.Callers.{events_in}

-- the events of a round of the display
abbrev pub round : List Event
round = event.Begin ∷ event.Draw ∷ event.Done ∷ []

-- the events of so many rounds
abbrev pub rounds : ℕ → List Event
rounds zero = []
rounds (suc n) = round ++ rounds n

-- a hub of this plan has the display and its clients as callers, and no call was made yet
pub record IsOpened (p : Plan) (messages : List ℕ) (id : TableId) (count : ℕ) (clients : List (Caller Plan Entry)) (first : Caller Plan Entry) : Type 0 where
  pub counts : messages ≡ message_counts p
  pub callers : count ≡ length messages + 1
  pub passes : clients ≡ unused_from id (Some p) 1 (length messages)
  pub display : first ≡ unused id (Some p) 0

-- a legal history in which the display's events are so many rounds, and each client has as many
-- entries as its file has messages
pub record IsTurns (p : Plan) (ticks : ℕ) (h : List Entry) : Type 0 where
  pub legal : Legal p h
  pub display : events_in (displayed h) ≡ rounds ticks
  pub clients : (c : ℕ) (file : ClientFile) → 1 ≤ c → file_of p c ≡ Some file → length (mine h c) ≡ length file.messages

-- a gate was told of each entry of a history: of the display's n-th as step n of actor 0, and of
-- the n-th of client c as step n of actor c
pub record AreEntriesTold (told : Call → Type 0) (h : List Entry) : Type 0 where
  pub display : AreTold told 0 0 (length (displayed h))
  pub clients : (c : ℕ) → 1 ≤ c → AreTold told c 0 (length (mine h c))
