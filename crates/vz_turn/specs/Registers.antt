-- What a hub's lock guards: a machine with its history, and who made each entry.
use Rattle.std.specs.Prelude.{◌≡◌, ℕ, ◌+◌, List, [], ◌∷◌, ◌++◌, map, length}
use Rattle.vz_loans.specs.Rule.{Log}
use Rattle.vz_rules.specs.Plan.{Plan}
use Rattle.vz_rules.specs.World.{Machine}
use Rattle.vz_rules.specs.declared.entry.Event.{Event}
use Rattle.vz_rules.specs.declared.entry.Entry.{Entry}
use Rattle.vz_rules.specs.Step.{entry_in, world, Legal}
use Rattle.vz_turn.specs.declared.brief.Told.{Told}
use Rattle.vz_turn.specs.Briefs.{brief_in}

-- the plan, and the log: the entries so far, each with the number of its caller
pub record Registered : Type 0 where
  pub plan : Plan
  pub log : Log Entry

-- the entries of a log without the numbers
unfoldable pub entries_of : Log Entry → List Entry
entries_of log = map (λ x. x.1) log

-- the machine with this plan, in the world after the entries
abbrev pub machine_of : Registered → Machine
machine_of r = record { plan = r.plan; world = world r.plan (entries_of r.log) }

-- the entry that an event would make next
abbrev pub next_entry : Registered → Event → Entry
next_entry r e = entry_in r.plan (world r.plan (entries_of r.log)) e

-- the log gets one more entry, for this event, with the caller's number
unfoldable pub registered_on : Registered → ℕ → Event → Registered
registered_on r caller e = record r { log = r.log ++ (caller, next_entry r e) ∷ [] }

-- what is reported of the entry of this event: its place, and the brief of its reply
abbrev pub TellsNext : Registered → Event → Told → Type 0
TellsNext r e told = told ≡ record { place = length r.log + 1; reply = brief_in (next_entry r e).reply }

-- what always holds of a register: each entry has a caller, its machine is in the world after
-- the entries, and these are legal
pub record IsRegistered (m : Machine) (callers : List ℕ) (h : List Entry) : Type 0 where
  pub even : length callers ≡ length h
  pub behind : m.world ≡ world m.plan h
  pub legal : Legal m.plan h
