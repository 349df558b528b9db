-- The contents of a shelf in memory, and what its calls change.
use Rattle.std.specs.Prelude.{ℕ, suc, ◌+◌, ◌-◌, ◌<◌, ◌≡◌, min, true, false, Option, Some, None, Result, Ok, Err, List, [], ◌∷◌, ◌++◌, length, drop, take, slice_get, slice_set, slice_index_or, map, Vec, String, string_bytes, if◌then◌else◌}
use Rattle.std.specs.Option.{option_map, option_map_or}
use Rattle.std.specs.Global.{Global}
use Rattle.std.specs.Str.{bytes_eq}
use Rattle.vz_outside.specs.Numbered.{Numbered, after_one_call, after_one_fault, is_failing, is_faultless}
use Rattle.vz_outside.specs.Shelved.{Shelved, Name, Mode, Reading, Writing}
use Rattle.vz_outside.specs.Sunk.{Sunk}
use Rattle.vz_outside.specs.declared.memory.Slot.{Slot}
use Rattle.vz_outside.specs.declared.memory.Place.{Place}
use Rattle.vz_outside.specs.declared.memory.Place.TheVariants.{At, End}
use Rattle.vz_outside.specs.declared.shelf.ShelfError.{ShelfError}
use Rattle.vz_outside.specs.declared.shelf.ShelfError.TheVariants.{Failed, Memory}

-- a file: its name and its bytes
abbrev pub File : Type 0
File = Name × List ℕ

-- the files of a program's list
abbrev pub files_of : List (String Global × Vec ℕ Global) → List File
files_of files = map (λ file. (string_bytes file.0, file.1.items)) files

-- a shelf in memory
pub record InMemory : Type 0 where
  -- the files; if several have one name, only the first counts
  pub files : List File
  -- the slots, in the order in which they were opened
  pub slots : List Slot
  -- the calls that were made, and those that fail
  pub calls : Numbered
  -- the greatest number of bytes that a call moves
  pub piece : ℕ

-- the file at a place
abbrev pub file_at : List File → ℕ → File
file_at files place = slice_index_or files place ([], [])

-- the place of the first file with this name
unfoldable pub first_named : List File → Name → Option ℕ
first_named [] name = None
first_named (file ∷ files) name = if bytes_eq file.0 name then Some 0 else option_map suc (first_named files name)

-- the bytes of the first file with this name
abbrev pub bytes_in : List File → Name → Option (List ℕ)
bytes_in files name = option_map (λ place. (file_at files place).1) (first_named files name)

-- what a slot with this place is open for
abbrev pub mode_of : Place → Mode
mode_of (At next) = Reading
mode_of End = Writing

-- the bytes after a slot's place, or none if it is open for writing
abbrev pub unread : List ℕ → Place → List ℕ
unread bytes (At next) = drop next bytes
unread bytes End = []

-- the name of a slot's file
abbrev pub slot_name : List File → Slot → Name
slot_name files slot = (file_at files slot.file).0

-- what was not yet read of a slot's file
abbrev pub slot_rest : List File → Slot → List ℕ
slot_rest files slot = unread (file_at files slot.file).1 slot.place

-- what contracts know of a shelf in memory: everything
abbrev pub shelved_of : InMemory → Shelved
shelved_of shelf = record {
  mode = λ slot. option_map (λ open_slot. mode_of open_slot.place) (slice_get shelf.slots slot);
  is_known = true;
  name = λ slot. option_map_or (slot_name shelf.files) (slice_get shelf.slots slot) [];
  bytes = bytes_in shelf.files;
  rest = λ slot. option_map_or (slot_rest shelf.files) (slice_get shelf.slots slot) [];
  faults = shelf.calls.faults;
  is_faultless = is_faultless shelf.calls;
}

-- what always holds of a shelf in memory
pub record IsKept (shelf : InMemory) : Type 0 where
  -- each slot's file is the first one with its name
  pub first : (k : ℕ) (slot : Slot) → slice_get shelf.slots k ≡ Some slot →
      first_named shelf.files (slot_name shelf.files slot) ≡ Some slot.file
  -- a call can move at least one byte
  pub some : 0 < shelf.piece

-- a slot for reading a file from one of its bytes on
abbrev pub reading_from : ℕ → ℕ → Slot
reading_from file next = record { file = file; place = At next }

-- a slot for writing at the end of a file
abbrev pub writing_to : ℕ → Slot
writing_to file = record { file = file; place = End }

-- the shelf after a call that changed nothing
abbrev pub after_call : InMemory → InMemory
after_call shelf = record shelf { calls = after_one_call shelf.calls }

-- the shelf after a call that failed
abbrev pub after_fault : InMemory → InMemory
after_fault shelf = record shelf { calls = after_one_fault shelf.calls }

-- the shelf after a call that opened one more slot
abbrev pub with_slot : InMemory → Slot → InMemory
with_slot shelf slot = record shelf { slots = shelf.slots ++ slot ∷ []; calls = after_one_call shelf.calls }

-- the files with the one of this name emptied, or added if there was none
abbrev pub emptied : List File → Name → List File
emptied files name =
    option_map_or (λ place. slice_set files place (name, [])) (first_named files name) (files ++ (name, []) ∷ [])

-- the files with more bytes at the end of one of them
abbrev pub extended : List File → ℕ → List ℕ → List File
extended files place more = slice_set files place ((file_at files place).0, (file_at files place).1 ++ more)

-- the shelf after a call that stops before it does anything: the call's number is one of those
-- that fail, or there is no memory
abbrev pub Stops : InMemory → ShelfError → InMemory → Type 0
Stops old Failed new = (is_failing old.calls ≡ true) × (new ≡ after_fault old)
Stops old Memory new = (is_failing old.calls ≡ false) × (new ≡ after_call old)

-- the result of opening a name, and the shelf after it
abbrev pub Opens : InMemory → Name → Result ℕ ShelfError → InMemory → Type 0
Opens old name (Ok slot) new =
    (is_failing old.calls ≡ false) × (slot ≡ length old.slots) ×
    ((file : ℕ) × (first_named old.files name ≡ Some file) × (new ≡ with_slot old (reading_from file 0)))
Opens old name (Err Failed) new =
    (is_failing old.calls ≡ false → first_named old.files name ≡ None) × (new ≡ after_fault old)
Opens old name (Err Memory) new = Stops old Memory new × ((file : ℕ) × (first_named old.files name ≡ Some file))

-- the result of creating a name, and the shelf after it
abbrev pub Creates : InMemory → Name → Result ℕ ShelfError → InMemory → Type 0
Creates old name (Ok slot) new =
    (is_failing old.calls ≡ false) × (slot ≡ length old.slots) ×
    ((file : ℕ) × (first_named (emptied old.files name) name ≡ Some file) ×
    (new ≡ record (with_slot old (writing_to file)) { files = emptied old.files name }))
Creates old name (Err error) new = Stops old error new

-- so many bytes moved from a slot's file to the front of a piece
pub record Moves (old : InMemory) (slot : ℕ) (room : ℕ) (piece : List ℕ) (n : ℕ) (new : InMemory) : Type 0 where
  -- the slot's file, and its next byte
  pub file : ℕ
  pub next : ℕ
  pub passes : is_failing old.calls ≡ false
  pub stood : slice_get old.slots slot ≡ Some (reading_from file next)
  pub many : n ≡ min old.piece (min room (length (file_at old.files file).1 - next))
  pub moved : drop next (file_at old.files file).1 ≡ take n piece ++ drop (next + n) (file_at old.files file).1
  pub left : new ≡ record old {
    slots = slice_set old.slots slot (reading_from file (next + n));
    calls = after_one_call old.calls;
  }

-- the result of reading from a slot into a piece of so many bytes, and the shelf after it
abbrev pub Reads : InMemory → ℕ → ℕ → List ℕ → Result ℕ ShelfError → InMemory → Type 0
Reads old slot room piece (Ok n) new = Moves old slot room piece n new
Reads old slot room piece (Err error) new = Stops old error new

-- so many bytes of a piece were appended to a slot's file
pub record Puts (old : InMemory) (slot : ℕ) (piece : List ℕ) (n : ℕ) (new : InMemory) : Type 0 where
  -- the slot's file
  pub file : ℕ
  pub passes : is_failing old.calls ≡ false
  pub stood : slice_get old.slots slot ≡ Some (writing_to file)
  pub many : n ≡ min old.piece (length piece)
  pub left : new ≡ record old { files = extended old.files file (take n piece); calls = after_one_call old.calls }

-- the result of writing a piece to a slot, and the shelf after it
abbrev pub Writes : InMemory → ℕ → List ℕ → Result ℕ ShelfError → InMemory → Type 0
Writes old slot piece (Ok n) new = Puts old slot piece n new
Writes old slot piece (Err error) new = Stops old error new

-- a sink in memory
pub record Collected : Type 0 where
  -- the bytes that it took
  pub bytes : List ℕ
  -- the calls that were made, and those that fail
  pub calls : Numbered

-- what contracts know of a sink in memory: everything
abbrev pub sunk_of : Collected → Sunk
sunk_of sink = record {
  is_known = true;
  bytes = sink.bytes;
  faults = sink.calls.faults;
  is_faultless = is_faultless sink.calls;
}

-- the result of writing a piece to a sink in memory, and the sink after it
abbrev pub Collects : Collected → List ℕ → Result ℕ ShelfError → Collected → Type 0
Collects old piece (Ok n) new =
    (is_failing old.calls ≡ false) × (n ≡ length piece) ×
    (new ≡ record { bytes = old.bytes ++ piece; calls = after_one_call old.calls })
Collects old piece (Err Failed) new =
    (is_failing old.calls ≡ true) × (new ≡ record old { calls = after_one_fault old.calls })
Collects old piece (Err Memory) new =
    (is_failing old.calls ≡ false) × (new ≡ record old { calls = after_one_call old.calls })
