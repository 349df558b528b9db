-- What stands while a file is read piece by piece.
use Rattle.std.proofs.Common.{◌≡◌, ℕ, ◌+◌, ◌-◌, ◌<◌, ◌≤◌, List, [], Some, length, take, drop, ◌++◌, Ok, sym, ap, ◌∙◌, arith, length-drop, length-append, append_assoc}
use Rattle.std.proofs.{lemmas.List.take_at, lemmas.List.drop_all, lemmas.List.append-nil, lemmas.List.length-take-le, Math.Seq.take-append-add}
use borrow.Rule.Slice.PartMut.{post_of}
use Rattle.vz_outside.proofs.Calls.{Ran, ran_one, ran_then_ran, known_after, reads_then_reads}
use Rattle.vz_outside.specs.Shelved.{Shelved, Reading, Consumes, ReadsOnly, Behaves}

-- so many bytes of a slot's rest were read, to the front of the room for them
pub record HasRead (limit slot filled : ℕ) (room : List ℕ) (old new : Shelved) : Type 0 where
  pub within : filled ≤ length room
  pub bounded : length room ≤ limit + 1
  pub opened : old.mode slot ≡ Some Reading
  pub ran : Ran old new
  pub moved : Consumes (take filled room) slot old new
  pub kept : ReadsOnly slot old new

-- what a list holds after its part from a place on was written through a slice
pub written_through :
    (len from : ℕ) (slice items into : List ℕ) →
    slice ≡ items → length slice ≡ len → from ≤ len → length into ≡ length slice - from →
    take len (take from slice ++ (into ++ post_of from (length slice - from) slice) ++
    drop (length (take from slice ++ (into ++ post_of from (length slice - from) slice))) items) ≡
    take from items ++ into
written_through len from slice items into same is_len low is_into =
    take_at _ _ len long ∙ shown ∙ ap (λ (xs : List ℕ). take from xs ++ into) same
  where
    none_behind : post_of from (length slice - from) slice ≡ []
    none_behind = drop_all (length slice - from) (drop from slice) (omega (arith, length-drop from slice))

    shown : take from slice ++ (into ++ post_of from (length slice - from) slice) ≡ take from slice ++ into
    shown = ap (λ (xs : List ℕ). take from slice ++ (into ++ xs)) none_behind ∙ ap (λ (xs : List ℕ). take from slice ++ xs) (append-nil into)

    long : length (take from slice ++ (into ++ post_of from (length slice - from) slice)) ≡ len
    long = ap length shown ∙ length-append (take from slice) into ∙
        (let front : length (take from slice) ≡ from = length-take-le from slice (omega arith) in omega arith)

-- a call read so many more, to the room behind
pub read_more :
    (limit slot filled more : ℕ) (before room piece after : List ℕ) (old mid new : Shelved) →
    HasRead limit slot filled before old mid →
    take filled room ≡ take filled before → filled < length room → length room ≤ limit + 1 →
    length piece ≡ length room - filled → after ≡ take filled room ++ piece → more ≤ length piece →
    Consumes (take more piece) slot mid new → ReadsOnly slot mid new → Behaves {T = ℕ} mid new (Ok more) →
    HasRead limit slot (filled + more) after old new
read_more limit slot filled more before room piece after old mid new was kept low bounded is_piece is_after few moved only behaves =
    record {
      within = omega (arith, long);
      bounded = omega (arith, long);
      opened = was.opened;
      ran = ran_then_ran old mid new was.ran (ran_one more mid new behaves);
      moved = λ told.
          was.moved told ∙
          ap (λ (xs : List ℕ). take filled before ++ xs) (moved (known_after old mid was.ran.call told)) ∙
          sym (append_assoc (take filled before) (take more piece) (new.rest slot)) ∙
          ap (λ (xs : List ℕ). xs ++ new.rest slot) (sym front);
      kept = reads_then_reads slot old mid new was.ran.call was.kept only;
    }
  where
    taken : length (take filled room) ≡ filled
    taken = length-take-le filled room (omega arith)

    long : length after ≡ length room
    long = ap length is_after ∙ length-append (take filled room) piece ∙ omega (arith, taken)

    front : take (filled + more) after ≡ take filled before ++ take more piece
    front =
        ap (λ (xs : List ℕ). take (filled + more) xs) is_after ∙
        ap (λ (n : ℕ). take (n + more) (take filled room ++ piece)) (sym taken) ∙
        take-append-add (take filled room) piece more ∙
        ap (λ (xs : List ℕ). xs ++ take more piece) kept
