-- Histories that the machine can step through.
use Rattle.std.specs.Prelude.{◌≡◌, ℕ, List, slice_get, Some}
use Rattle.vz_rules.specs.Plan.{Plan}
use Rattle.vz_rules.specs.declared.entry.Entry.{Entry}
use Rattle.vz_rules.specs.Step.{NamesClient}

-- each client's event is of a client of the plan
abbrev pub NamesClients : Plan → List Entry → Type 0
NamesClients p h = (k : ℕ) (e : Entry) → slice_get h k ≡ Some e → NamesClient p e.event
