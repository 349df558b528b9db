-- What contracts know of a shelf of named files, and what a call may change of it.
use Rattle.std.specs.Prelude.{◌≡◌, ◌≢◌, ◌≤◌, ℕ, Bool, Option, Some, None, List, [], ◌++◌, ◌∷◌, length, take, IsTrue, Result, IsErrOf}
use Rattle.vz_outside.specs.Faults.{HasCause}
use Rattle.vz_outside.specs.declared.shelf.ShelfError.{ShelfError}
use Rattle.vz_outside.specs.declared.shelf.ShelfError.TheVariants.{Failed}

-- a name, as its bytes
abbrev pub Name : Type 0
Name = List ℕ

-- what an open slot is for
pub data Mode : Type 0 where
  Reading : Mode
  Writing : Mode

-- what contracts know of a shelf
pub record Shelved : Type 0 where
  -- what each slot is open for
  pub mode : ℕ → Option Mode
  -- whether the names of its slots, the bytes of each name and the unread rests are known
  pub is_known : Bool
  -- the name of each open slot
  pub name : ℕ → Name
  -- the bytes of each name that exists
  pub bytes : Name → Option (List ℕ)
  -- what was not yet read of each open slot
  pub rest : ℕ → List ℕ
  -- how many faults there were
  pub faults : ℕ
  -- whether no call fails, except the opening of a name that does not exist
  pub is_faultless : Bool

-- a statement about names and bytes of a shelf, which holds if they are known
abbrev pub IfKnown : Shelved → Type 0 → Type 0
IfKnown shelf P = IsTrue shelf.is_known → P

-- something holds of each open slot
abbrev pub EachOpen : Shelved → (ℕ → Type 0) → Type 0
EachOpen shelf P = (slot : ℕ) (mode : Mode) → shelf.mode slot ≡ Some mode → P slot

-- a name has these bytes
abbrev pub Holds : List ℕ → Name → Shelved → Type 0
Holds bytes name shelf = IfKnown shelf (shelf.bytes name ≡ Some bytes)

-- a name is known not to exist
abbrev pub IsMissing : Name → Shelved → Type 0
IsMissing name shelf = IsTrue shelf.is_known × (shelf.bytes name ≡ None)

-- all of a slot's file was read
abbrev pub IsAtEnd : ℕ → Shelved → Type 0
IsAtEnd slot shelf = IfKnown shelf (shelf.rest slot ≡ [])

-- a slot was not open, and is open now, with this name
pub record IsOpened (mode : Mode) (name : Name) (slot : ℕ) (old new : Shelved) : Type 0 where
  pub free : old.mode slot ≡ None
  pub taken : new.mode slot ≡ Some mode
  pub named : IfKnown old (new.name slot ≡ name)

-- these bytes were at the front of a slot's unread rest, and are read now
abbrev pub Consumes : List ℕ → ℕ → Shelved → Shelved → Type 0
Consumes piece slot old new = IfKnown old (old.rest slot ≡ piece ++ new.rest slot)

-- these are the first bytes of a slot's unread rest, at most so many
abbrev pub IsFront : ℕ → List ℕ → ℕ → Shelved → Type 0
IsFront most bytes slot shelf = IfKnown shelf (bytes ≡ take most (shelf.rest slot))

-- the bytes of a name followed by more; a name that did not exist gets only these, if there are
-- any
abbrev pub with_more : Option (List ℕ) → List ℕ → Option (List ℕ)
with_more (Some bytes) more = Some (bytes ++ more)
with_more None [] = None
with_more None (byte ∷ more) = Some (byte ∷ more)

-- the bytes of a name are the old ones followed by these
abbrev pub Appends : List ℕ → Name → Shelved → Shelved → Type 0
Appends more name old new = IfKnown old (new.bytes name ≡ with_more (old.bytes name) more)

-- the bytes of a name are the old ones followed by a front part of these
abbrev pub AppendsFront : List ℕ → Name → Shelved → Shelved → Type 0
AppendsFront all name old new =
    IfKnown old ((n : ℕ) × (n ≤ length all) × (new.bytes name ≡ with_more (old.bytes name) (take n all)))

-- every name keeps its bytes
abbrev pub SameFiles : Shelved → Shelved → Type 0
SameFiles old new = IfKnown old ((name : Name) → new.bytes name ≡ old.bytes name)

-- every name keeps its bytes, and every open slot its unread rest
pub record KeepsBytes (old new : Shelved) : Type 0 where
  pub files : SameFiles old new
  pub rests : IfKnown old (EachOpen old (λ slot. new.rest slot ≡ old.rest slot))

-- every name keeps its bytes, and every other open slot its unread rest
pub record ReadsOnly (one : ℕ) (old new : Shelved) : Type 0 where
  pub files : SameFiles old new
  pub rests : IfKnown old (EachOpen old (λ slot. slot ≢ one → new.rest slot ≡ old.rest slot))

-- every other name keeps its bytes, and the slots of other names keep their unread rests
pub record KeepsOthers (one : Name) (old new : Shelved) : Type 0 where
  pub files : IfKnown old ((name : Name) → name ≢ one → new.bytes name ≡ old.bytes name)
  pub rests : IfKnown old (EachOpen old (λ slot. old.name slot ≢ one → new.rest slot ≡ old.rest slot))

-- no slot was opened, and no bytes and no rest changed; a failed call leaves the shelf so
pub record IsUntouched (old new : Shelved) : Type 0 where
  pub slots : (slot : ℕ) → new.mode slot ≡ old.mode slot
  pub bytes : KeepsBytes old new

-- what every call keeps
pub record IsCall (old new : Shelved) : Type 0 where
  -- open slots stay open in the same mode
  pub slots : (slot : ℕ) (mode : Mode) → old.mode slot ≡ Some mode → new.mode slot ≡ Some mode
  -- open slots keep their names
  pub names : IfKnown old (EachOpen old (λ slot. new.name slot ≡ old.name slot))
  -- names and bytes are known exactly if they were known before
  pub known : new.is_known ≡ old.is_known
  -- the count never decreases
  pub faults : old.faults ≤ new.faults

-- the shelf is still faultless, and its count is as before
pub record StaysFaultless (old new : Shelved) : Type 0 where
  pub faultless : IsTrue new.is_faultless
  pub faults : new.faults ≡ old.faults

-- what holds of every call, and of several calls of which only the last may fail: a faultless
-- shelf fails for this reason alone
pub record BehavesUnless {T : Type 0} (reason : Type 0) (old new : Shelved) (result : Result T ShelfError) : Type 0 where
  pub call : IsCall old new
  -- what the result says of the count of faults
  pub cause : HasCause old.faults new.faults result
  -- a faultless shelf fails only for this reason
  pub works : IsTrue old.is_faultless → IsErrOf result Failed → reason
  -- a faultless shelf stays faultless if the call does not fail
  pub stays : IsTrue old.is_faultless → (IsErrOf result Failed → ⊥) → StaysFaultless old new

-- what holds of every call, and of several calls of which only the last may fail: a faultless
-- shelf does not fail
abbrev pub Behaves : {T : Type 0} → Shelved → Shelved → Result T ShelfError → Type 0
Behaves old new result = BehavesUnless ⊥ old new result
