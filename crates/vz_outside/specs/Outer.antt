-- What contracts know of the system's files and of standard output: the open slots, what a file or
-- a stream reports of itself, and the count of faults.
use Rattle.std.specs.Prelude.{◌≡◌, ℕ, false, Option, None, List, [], ◌∷◌, ◌++◌, length, set, get_or, slice_get}
use Rattle.vz_outside.specs.Shelved.{Shelved, Mode, Reading, Writing}
use Rattle.vz_outside.specs.Sunk.{Sunk}
use Rattle.vz_outside.specs.declared.real.Handle.{Handle}
use Rattle.vz_outside.specs.declared.real.Handle.TheVariants.{Source, Target}

-- what contracts know of the system's files
pub record Outer : Type 0 where
  -- what each slot is open for, in the order in which they were opened
  pub modes : List Mode
  -- the known bytes of each slot's file, if the runtime reports them: the unread rest of a file to
  -- read, the contents of a file to write
  pub known : List (Option (List ℕ))
  -- how many faults there were
  pub faults : ℕ

-- what a handle is open for
abbrev pub handle_mode : {F : Type 0} → Handle F → Mode
handle_mode (Source file) = Reading
handle_mode (Target file) = Writing

-- the known bytes of a handle's file: the unread rest of a file to read, the contents of a file to
-- write
abbrev pub handle_bytes : {F : Type 0} → (F → Option (List ℕ)) → (F → Option (List ℕ)) → Handle F → Option (List ℕ)
handle_bytes remaining contents (Source file) = remaining file
handle_bytes remaining contents (Target file) = contents file

-- the known bytes of a slot's file
abbrev pub known_bytes : ℕ → Outer → Option (List ℕ)
known_bytes slot outer = get_or outer.known slot None

-- the slots are as before
pub record KeepsSlots (old new : Outer) : Type 0 where
  pub modes : new.modes ≡ old.modes
  pub known : new.known ≡ old.known

-- the slots are as before, except the file of this one
pub record KeepsOtherSlots (slot : ℕ) (old new : Outer) : Type 0 where
  pub modes : new.modes ≡ old.modes
  pub known : new.known ≡ set old.known slot (known_bytes slot new)

-- this slot is the last one, and the slots before it are as before
pub record IsLastOpened (mode : Mode) (slot : ℕ) (old new : Outer) : Type 0 where
  pub number : slot ≡ length old.modes
  pub modes : new.modes ≡ old.modes ++ mode ∷ []
  pub known : new.known ≡ old.known ++ known_bytes slot new ∷ []

-- what contracts know of the system's files as a shelf
abbrev pub outer_shelf : Outer → Shelved
outer_shelf outer = record {
  mode = λ slot. slice_get outer.modes slot;
  is_known = false;
  name = λ slot. [];
  bytes = λ name. None;
  rest = λ slot. [];
  faults = outer.faults;
  is_faultless = false;
}

-- what contracts know of a stream that is printed to
pub record Stream : Type 0 where
  -- the bytes that it has, if it reports them
  pub known : Option (List ℕ)
  -- how many faults there were
  pub faults : ℕ

-- what contracts know of standard output
abbrev pub outer_sink : Stream → Sunk
outer_sink stream = record { is_known = false; bytes = []; faults = stream.faults; is_faultless = false }
