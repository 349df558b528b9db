-- A live session: clients send messages and events happen, in any order.
use Rattle.std.specs.Prelude.{◌≡◌, ℕ, ◌<◌, not, Some, List, [], ◌∷◌, ◌++◌, IsTrue, IsFalse}
use Rattle.vz_frame.specs.declared.message.ClientFile.{ClientFile}
use Rattle.vz_frame.specs.declared.message.Message.{Message}
use Rattle.vz_rules.specs.Plan.{Plan, IsPlan}
use Rattle.vz_rules.specs.declared.entry.Event.{Event}
use Rattle.vz_rules.specs.declared.entry.Entry.{Entry}
use Rattle.vz_rules.specs.World.{Machine, file_of}
use Rattle.vz_rules.specs.Step.{world, entry_in, step_in, NamesClient, Legal}
use Rattle.vz_sessions.specs.Grown.{grown, is_miss, HasRoom}
use Rattle.std.specs.List.{list_all}

-- what happens in a session
pub data Deed : Type 0 where
  -- a client sends a message, which waits until the client's next event
  Sends : ℕ → Message → Deed
  -- an event
  Does : Event → Deed

-- all messages that were sent so far, and what the machine answered so far
pub record Session : Type 0 where
  pub plan : Plan
  pub told : List Entry

-- a session after a deed
unfoldable pub after_deed : Session → Deed → Session
after_deed s (Sends c m) = record { plan = grown s.plan c m; told = s.told }
after_deed s (Does e) = record { plan = s.plan; told = s.told ++ entry_in s.plan (world s.plan s.told) e ∷ [] }

-- a session after these deeds
unfoldable pub after_deeds : Session → List Deed → Session
after_deeds s [] = s
after_deeds s (d ∷ ds) = after_deeds (after_deed s d) ds

-- a deed is allowed: a message is of a client of the plan, fits its file, and there is room for it;
-- an event is of a client of the plan that has a message left, or of the display
abbrev pub IsAllowed : Session → Deed → Type 0
IsAllowed s (Sends c m) = (0 < c) × ((f : ClientFile) × (file_of s.plan c ≡ Some f) × HasRoom f m)
IsAllowed s (Does e) = NamesClient s.plan e × IsFalse (is_miss (step_in s.plan (world s.plan s.told) e).reply)

-- each deed is allowed at its place
unfoldable pub AreAllowed : Session → List Deed → Type 0
AreAllowed s [] = Unit {0}
AreAllowed s (d ∷ ds) = IsAllowed s d × AreAllowed (after_deed s d) ds

-- no entry tells a client that all its messages were taken
abbrev pub NoneMisses : List Entry → Type 0
NoneMisses h = IsTrue (list_all (λ e. not (is_miss e.reply)) h)

-- the machine after a deed: a message changes the plan alone, and an event the world alone
unfoldable pub after_one : Machine → Deed → Machine
after_one s (Sends c m) = record { plan = grown s.plan c m; world = s.world }
after_one s (Does e) = record { plan = s.plan; world = (step_in s.plan s.world e).world }

-- the machine after these deeds
unfoldable pub after_all : Machine → List Deed → Machine
after_all s [] = s
after_all s (d ∷ ds) = after_all (after_one s d) ds

-- the machine of a session: all messages sent so far, and the world after what was told
abbrev pub machine_of : Session → Machine
machine_of s = record { plan = s.plan; world = world s.plan s.told }

-- what always holds of a session
pub record IsSession (s : Session) : Type 0 where
  pub plan : IsPlan s.plan
  pub legal : Legal s.plan s.told
  pub none_misses : NoneMisses s.told
