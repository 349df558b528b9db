-- What a gate was told of the entries of a history.
use Rattle.std.specs.Prelude.{ℕ, List, []}
use Rattle.vz_outside.specs.Told.{Call, AreTold}
use Rattle.vz_rules.specs.declared.entry.Entry.{Entry}
use Rattle.vz_player.specs.Played.{entries_by}

-- a history went on to another one, and the gate was told of each entry in between: of the n-th
-- entry of each actor as its step n, before it and after it
abbrev pub IsGated : (Call → Type 0) → List Entry → List Entry → Type 0
IsGated told old new = (actor : ℕ) → AreTold told actor (entries_by old actor) (entries_by new actor)

-- the gate was told of each entry of a history
abbrev pub AreGated : (Call → Type 0) → List Entry → Type 0
AreGated told h = IsGated told [] h
