-- The message files that are made by rule, and what C is told of them.
use Rattle.std.specs.Prelude.{◌≡◌, ◌≢◌, ◌<◌, ℕ, Result, Ok, Err, List, map, length}
use Rattle.std.specs.List.{sum}
use Rattle.vz_base.specs.declared.memory.Memory.{Memory as Want}
use Rattle.vz_codec.specs.Spelling.{file_bytes}
use Rattle.vz_frame.specs.declared.message.ClientFile.{ClientFile}
use Rattle.vz_gen.specs.Make.{make}
use Rattle.viz_c.specs.Rooms.{Room, IsPut}
use Rattle.viz_c.specs.Answers.{DONE, MEMORY, ROOM}
use Rattle.viz_c.specs.declared.rounds.Made.{Made}

-- how many bytes each of these files has
abbrev pub lengths_of : List ClientFile → List ℕ
lengths_of files = map (λ f. length (file_bytes f)) files

-- the files for so many rounds have these lengths, which are together that count
pub record AreLengths (rounds count : ℕ) (lengths : List ℕ) : Type 0 where
  pub each : lengths ≡ lengths_of (make rounds)
  pub all : count ≡ sum lengths

-- the same, and the files are longer together than the room
pub record MakesMore (rounds room count : ℕ) (lengths : List ℕ) : Type 0 where
  pub told : AreLengths rounds count lengths
  pub small : room < count

-- the answer for files and their lengths, and what is put into the rooms
pub record AreMadeTold (made : Made) (code : ℕ) (r : Room) (lengths : List ℕ) : Type 0 where
  pub count : r.count ≡ length made.bytes.items
  pub lengths_are : lengths ≡ made.lengths.items
  pub done : code ≡ DONE → IsPut made.bytes.items r.before r.after
  pub room : code ≡ ROOM → length r.before < length made.bytes.items
  pub kept : code ≢ DONE → r.after ≡ r.before
  pub one : code ≢ DONE → code ≡ ROOM

-- the answer for files that were made, or for want of memory
abbrev pub IsMadeTold : Result Made Want → ℕ → Room → List ℕ → List ℕ → Type 0
IsMadeTold (Ok made) code r old new = AreMadeTold made code r new
IsMadeTold (Err e) code r old new = (code ≡ MEMORY) × (r.after ≡ r.before) × (new ≡ old)
