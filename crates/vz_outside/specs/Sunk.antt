-- What contracts know of a sink, and what a call may change of it.
use Rattle.std.specs.Prelude.{◌≡◌, ℕ, Bool, List, ◌≤◌, ◌++◌, length, take, IsTrue, Result, IsErrOf}
use Rattle.vz_outside.specs.Faults.{HasCause}
use Rattle.vz_outside.specs.declared.shelf.ShelfError.{ShelfError}
use Rattle.vz_outside.specs.declared.shelf.ShelfError.TheVariants.{Failed}

-- what contracts know of a sink
pub record Sunk : Type 0 where
  -- whether its bytes are known
  pub is_known : Bool
  -- the bytes that it took
  pub bytes : List ℕ
  -- how many faults there were
  pub faults : ℕ
  -- whether no call fails
  pub is_faultless : Bool

-- a statement about the bytes of a sink, which holds if they are known
abbrev pub IfKnown : Sunk → Type 0 → Type 0
IfKnown sink P = IsTrue sink.is_known → P

-- the sink keeps its bytes
abbrev pub KeepsBytes : Sunk → Sunk → Type 0
KeepsBytes old new = IfKnown old (new.bytes ≡ old.bytes)

-- the sink's bytes are the old ones followed by these
abbrev pub Takes : List ℕ → Sunk → Sunk → Type 0
Takes more old new = IfKnown old (new.bytes ≡ old.bytes ++ more)

-- the sink's bytes are the old ones followed by a front part of these
abbrev pub TakesFront : List ℕ → Sunk → Sunk → Type 0
TakesFront all old new = IfKnown old ((n : ℕ) × (n ≤ length all) × (new.bytes ≡ old.bytes ++ take n all))

-- the sink is still faultless, and its count is as before
pub record StaysFaultless (old new : Sunk) : Type 0 where
  pub faultless : IsTrue new.is_faultless
  pub faults : new.faults ≡ old.faults

-- what holds of every call, and of several calls of which only the last may fail
pub record Behaves {T : Type 0} (old new : Sunk) (result : Result T ShelfError) : Type 0 where
  -- the bytes are known exactly if they were known before
  pub known : new.is_known ≡ old.is_known
  -- what the result says of the count of faults
  pub cause : HasCause old.faults new.faults result
  -- a faultless sink does not fail
  pub works : IsTrue old.is_faultless → IsErrOf result Failed → ⊥
  -- a faultless sink stays faultless
  pub stays : IsTrue old.is_faultless → StaysFaultless old new
