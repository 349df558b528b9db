-- What a desk's lock guards: a machine with its history, and why it was stopped.
use Rattle.std.specs.Prelude.{◌≡◌, ℕ, ◌<◌, ◌≤◌, Option, Some, is_some, unwrap_or, IsTrue, List, [], ◌∷◌, ◌++◌, map, length}
use Rattle.vz_base.specs.declared.limits.TheConstants.{MOST_FILES}
use Rattle.vz_rules.specs.Plan.{Plan}
use Rattle.vz_rules.specs.World.{Machine}
use Rattle.vz_rules.specs.declared.entry.Event.{Event}
use Rattle.vz_rules.specs.declared.entry.Event.TheVariants as event
use Rattle.vz_rules.specs.declared.entry.Entry.{Entry}
use Rattle.vz_rules.specs.Step.{entry_in, world, Legal}

-- the plan, the history so far, the reason for the first stop, if there was one, and a client that
-- the display awaits, if it waits in a pause
pub record Booked (S : Type 0) : Type 0 where
  pub plan : Plan
  pub history : List Entry
  pub reason : Option S
  pub awaited : Option ℕ

-- the machine with this plan, in the world after the history
abbrev pub machine_of : {S : Type 0} → Booked S → Machine
machine_of b = record { plan = b.plan; world = world b.plan b.history }

-- the entry that an event would make next
abbrev pub next_entry : {S : Type 0} → Booked S → Event → Entry
next_entry b e = entry_in b.plan (world b.plan b.history) e

-- the history gets one more entry, for this event
unfoldable pub booked_on : {S : Type 0} → Booked S → Event → Booked S
booked_on b e = record b { history = b.history ++ next_entry b e ∷ [] }

-- another client is awaited, or none
abbrev pub awaiting : {S : Type 0} → Booked S → Option ℕ → Booked S
awaiting b c = record b { awaited = c }

-- the book keeps a reason: the one that was found, or else this one
abbrev pub stopped_with : {S : Type 0} → Booked S → S → Booked S
stopped_with b why = record b { reason = Some (unwrap_or b.reason why) }

-- what always holds of a book: its machine is in the world after the history, the history is
-- legal, there are so many clients, and room for Done is reserved while a frame is in flight
pub record IsBooked {S : Type 0} (m : Machine) (clients spare : ℕ) (b : Booked S) : Type 0 where
  pub behind : m ≡ machine_of b
  pub legal : Legal b.plan b.history
  pub counted : clients ≡ length b.plan.files
  pub files : length b.plan.files ≤ MOST_FILES
  pub room : IsTrue (is_some m.world.in_flight) → 0 < spare

-- who makes the event: the display, which has the number 0, or a client
abbrev pub caller_in : Event → ℕ
caller_in (event.Client c) = c
caller_in _ = 0

-- the entries, each with its caller's number
abbrev pub numbered : List Entry → List (ℕ × Entry)
numbered h = map (λ e. (caller_in e.event, e)) h
