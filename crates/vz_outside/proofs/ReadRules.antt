-- Rules of reading from a shelf in memory.
use Rattle.std.proofs.Common.{◌≡◌, ℕ, ◌+◌, ◌-◌, min, ◌<◌, ◌≤◌, Some, List, [], ◌++◌, length, set, take, drop, slice_get, Result, Ok, Err, IfOk, OnErr, inl, inr, refl, sym, ◌∙◌, ap, subst, arith}
use Rattle.std.specs.Option.{option_map_or}
use Rattle.std.proofs.{lemmas.Bool.cases_eq, lemmas.List.drop_all, lemmas.Option.same_Some, lemmas.Option.slice_get_within}
use Rattle.vz_outside.proofs.Slots.{get-set_other, get-set_same}
use Rattle.vz_outside.proofs.Shelf_rules.{KeepsSlot, same_slot, call_kept, ok_behaves, stopped_behaves, stopped_untouched}
use Rattle.vz_outside.specs.InMemory.{InMemory, IsKept, Reads, Stops, file_at, mode_of, reading_from, shelved_of, slot_rest}
use Rattle.vz_outside.specs.{Numbered.after_one_call, declared.memory.Slot.Slot, declared.shelf.ShelfError.ShelfError}
use Rattle.vz_outside.specs.Shelved.{Shelved, Consumes, IsAtEnd, ReadsOnly, IsUntouched, Behaves}

-- all that a shelf owes of a read of a slot to a piece with room for so many bytes
pub record ReadRules (old new : Shelved) (slot room : ℕ) (piece : List ℕ) (result : Result ℕ ShelfError) : Type 0 where
  pub count : IfOk result (λ n. n ≤ room)
  pub moved : IfOk result (λ n. Consumes (take n piece) slot old new)
  pub ended : IfOk result (λ n. n ≡ 0 → IsAtEnd slot old)
  pub kept : ReadsOnly slot old new
  pub untouched : OnErr result (IsUntouched old new)
  pub behaves : Behaves old new result

-- the shelf with a slot moved on
abbrev moved_on : InMemory → ℕ → ℕ → ℕ → InMemory
moved_on shelf slot file next = record shelf { slots = set shelf.slots slot (reading_from file next); calls = after_one_call shelf.calls }

-- bytes were read
read_ok :
    (shelf : InMemory) (slot room : ℕ) (piece : List ℕ) (n file next : ℕ) → IsKept shelf → 0 < room →
    slice_get shelf.slots slot ≡ Some (reading_from file next) →
    n ≡ min shelf.piece (min room (length (file_at shelf.files file).1 - next)) →
    drop next (file_at shelf.files file).1 ≡ take n piece ++ drop (next + n) (file_at shelf.files file).1 →
    ReadRules (shelved_of shelf) (shelved_of (moved_on shelf slot file (next + n))) slot room piece (Ok n)
read_ok shelf slot room piece n file next kept wide stood many moved = record {
  count = omega (arith, many);
  moved = λ told. before ∙ moved ∙ ap (λ (bytes : List ℕ). take n piece ++ bytes) (sym after);
  ended = λ none told. before ∙ drop_all next (file_at shelf.files file).1 (short none);
  kept = record {
    files = λ told name. refl;
    rests = λ told k mode is other.
        ap (λ o. option_map_or (slot_rest shelf.files) o []) (get-set_other shelf.slots slot (reading_from file (next + n)) k other);
  };
  untouched = tt;
  behaves =
      ok_behaves n shelf (moved_on shelf slot file (next + n))
      (call_kept shelf (moved_on shelf slot file (next + n)) kept
      (record { slots = slots; names = λ i low. refl; faults = omega arith })) refl;
}
  where
    low : slot < length shelf.slots
    low = slice_get_within shelf.slots slot (reading_from file next) stood

    before : option_map_or (slot_rest shelf.files) (slice_get shelf.slots slot) [] ≡ drop next (file_at shelf.files file).1
    before = ap (λ o. option_map_or (slot_rest shelf.files) o []) stood

    after :
        option_map_or (slot_rest shelf.files) (slice_get (set shelf.slots slot (reading_from file (next + n))) slot) [] ≡
        drop (next + n) (file_at shelf.files file).1
    after = ap (λ o. option_map_or (slot_rest shelf.files) o []) (get-set_same shelf.slots slot (reading_from file (next + n)) low)

    short : n ≡ 0 → length (file_at shelf.files file).1 ≤ next
    short none = omega (arith, many, kept.some)

    slots : (k : ℕ) (one : Slot) → slice_get shelf.slots k ≡ Some one →
        (moved : Slot) × (slice_get (set shelf.slots slot (reading_from file (next + n))) k ≡ Some moved) × KeepsSlot one moved
    slots k one at =
        elim (cases_eq k slot) [
          | inl same ↦
              let is : one ≡ reading_from file next =
              same_Some one (reading_from file next) (sym at ∙ ap (λ (i : ℕ). slice_get shelf.slots i) same ∙ stood) in (
                reading_from file (next + n),
                ap (λ (i : ℕ). slice_get (set shelf.slots slot (reading_from file (next + n))) i) same ∙
                    get-set_same shelf.slots slot (reading_from file (next + n)) low,
                record { file = ap (λ (s : Slot). s.file) (sym is); mode = ap (λ (s : Slot). mode_of s.place) (sym is) },
              )
          | inr other ↦
              (one, get-set_other shelf.slots slot (reading_from file (next + n)) k other ∙ at, same_slot one)
        ]

-- a read stopped before its work
read_stopped :
    (error : ShelfError) (old new : InMemory) (slot room : ℕ) (piece : List ℕ) → Stops old error new →
    ReadRules (shelved_of old) (shelved_of new) slot room piece (Err error)
read_stopped error old new slot room piece stops =
    let same = stopped_untouched error old new stops in
    record {
      count = tt;
      moved = tt;
      ended = tt;
      kept = record { files = same.bytes.files; rests = λ told k mode is other. same.bytes.rests told k mode is };
      untouched = same;
      behaves = stopped_behaves error old new stops;
    }

-- what a read answers and leaves keeps all rules
pub read_rules :
    (old : InMemory) (slot room : ℕ) (piece : List ℕ) (result : Result ℕ ShelfError) (new : InMemory) →
    IsKept old → 0 < room → Reads old slot room piece result new →
    ReadRules (shelved_of old) (shelved_of new) slot room piece result
read_rules old slot room piece (Ok n) new kept wide reads =
    subst (λ (m : InMemory). ReadRules (shelved_of old) (shelved_of m) slot room piece (Ok n)) (sym reads.left)
    (read_ok old slot room piece n reads.file reads.next kept wide reads.stood reads.many reads.moved)
read_rules old slot room piece (Err error) new kept wide reads = read_stopped error old new slot room piece reads
