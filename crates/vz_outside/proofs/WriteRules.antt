-- Rules of writing to a shelf in memory.
use Rattle.std.proofs.Common.{◌≡◌, ◌≢◌, ℕ, min, ◌<◌, ◌≤◌, Some, Option, List, [], ◌++◌, length, take, slice_get, Result, Ok, Err, IfOk, OnErr, refl, sym, ◌∙◌, ap, subst, arith, get_or-set_same}
use Rattle.std.specs.Option.{option_map_or}
use Rattle.vz_outside.proofs.{Calls.kept_of_untouched, Places.bytes_found}
use Rattle.vz_outside.proofs.Held.{ChangesOne, change-set, open_slot, other_bytes, slot_low}
use Rattle.vz_outside.proofs.Shelf_rules.{same_slot, call_kept, ok_behaves, stopped_behaves, stopped_untouched}
use Rattle.vz_outside.specs.InMemory.{File, InMemory, IsKept, Stops, Writes, extended, file_at, first_named, shelved_of, slot_name, slot_rest, unread, writing_to}
use Rattle.vz_outside.specs.{Numbered.after_one_call, declared.shelf.ShelfError.ShelfError}
use Rattle.vz_outside.specs.Shelved.{Shelved, Name, Appends, KeepsOthers, IsUntouched, Behaves, with_more}

-- all that a shelf owes of a write of a piece to a slot
pub record WriteRules (old new : Shelved) (slot : ℕ) (piece : List ℕ) (result : Result ℕ ShelfError) : Type 0 where
  pub some : IfOk result (λ n. 0 < n)
  pub count : IfOk result (λ n. n ≤ length piece)
  pub appended : IfOk result (λ n. Appends (take n piece) (old.name slot) old new)
  pub others : KeepsOthers (old.name slot) old new
  pub untouched : OnErr result (IsUntouched old new)
  pub behaves : Behaves old new result

-- the shelf with more bytes at the end of a file
abbrev longer : InMemory → ℕ → List ℕ → InMemory
longer shelf file more = record shelf { files = extended shelf.files file more; calls = after_one_call shelf.calls }

-- bytes were written
write_ok :
    (shelf : InMemory) (slot : ℕ) (piece : List ℕ) (n file : ℕ) → IsKept shelf → 0 < length piece →
    slice_get shelf.slots slot ≡ Some (writing_to file) → n ≡ min shelf.piece (length piece) →
    WriteRules (shelved_of shelf) (shelved_of (longer shelf file (take n piece))) slot piece (Ok n)
write_ok shelf slot piece n file kept some stood many = record {
  some = omega (arith, many, kept.some);
  count = omega (arith, many);
  appended =
      subst (λ (name : Name). Appends (take n piece) name (shelved_of shelf) (shelved_of (longer shelf file (take n piece)))) (sym named)
      appends;
  others =
      subst (λ (name : Name). KeepsOthers name (shelved_of shelf) (shelved_of (longer shelf file (take n piece)))) (sym named)
      (record {
        files = λ told name differs. other_bytes one name shelf.files (extended shelf.files file (take n piece)) change differs;
        rests = λ told k mode is differs.
            let was = open_slot shelf.slots k mode is in
            let other : (file_at shelf.files was.0.file).0 ≢ one =
            λ same. differs (ap (λ o. option_map_or (slot_name shelf.files) o []) was.1 ∙ same) in
            ap (λ o. option_map_or (slot_rest (extended shelf.files file (take n piece))) o []) was.1 ∙
            ap (λ (f : File). unread f.1 was.0.place) (change.others was.0.file (slot_low shelf k was.0 kept was.1) other) ∙
            sym (ap (λ o. option_map_or (slot_rest shelf.files) o []) was.1);
      });
  untouched = tt;
  behaves =
      ok_behaves n shelf (longer shelf file (take n piece))
      (call_kept shelf (longer shelf file (take n piece)) kept
      (record { slots = λ k slot at. (slot, at, same_slot slot); names = change.names; faults = omega arith })) refl;
}
  where
    one : Name
    one = (file_at shelf.files file).0

    named : option_map_or (slot_name shelf.files) (slice_get shelf.slots slot) [] ≡ (file_at shelf.files file).0
    named = ap (λ o. option_map_or (slot_name shelf.files) o []) stood

    change : ChangesOne (file_at shelf.files file).0 shelf.files (extended shelf.files file (take n piece))
    change = change-set shelf.files file ((file_at shelf.files file).1 ++ take n piece)

    first : first_named shelf.files (file_at shelf.files file).0 ≡ Some file
    first = kept.first slot (writing_to file) stood

    appends : Appends (take n piece) (file_at shelf.files file).0 (shelved_of shelf) (shelved_of (longer shelf file (take n piece)))
    appends told =
        bytes_found (extended shelf.files file (take n piece)) (file_at shelf.files file).0 file
        (change.places (file_at shelf.files file).0 file first) ∙
        ap (λ (f : File). Some f.1)
        (get_or-set_same shelf.files file ((file_at shelf.files file).0, (file_at shelf.files file).1 ++ take n piece) ([], [])
        (slot_low shelf slot (writing_to file) kept stood)) ∙
        ap (λ (bytes : Option (List ℕ)). with_more bytes (take n piece))
        (sym (bytes_found shelf.files (file_at shelf.files file).0 file first))

-- a write stopped before its work
write_stopped :
    (error : ShelfError) (old new : InMemory) (slot : ℕ) (piece : List ℕ) → Stops old error new →
    WriteRules (shelved_of old) (shelved_of new) slot piece (Err error)
write_stopped error old new slot piece stops = record {
  some = tt;
  count = tt;
  appended = tt;
  others = kept_of_untouched _ (shelved_of old) (shelved_of new) (stopped_untouched error old new stops);
  untouched = stopped_untouched error old new stops;
  behaves = stopped_behaves error old new stops;
}

-- what a write answers and leaves keeps all rules
pub write_rules :
    (old : InMemory) (slot : ℕ) (piece : List ℕ) (result : Result ℕ ShelfError) (new : InMemory) →
    IsKept old → 0 < length piece → Writes old slot piece result new →
    WriteRules (shelved_of old) (shelved_of new) slot piece result
write_rules old slot piece (Ok n) new kept some writes =
    subst (λ (m : InMemory). WriteRules (shelved_of old) (shelved_of m) slot piece (Ok n)) (sym writes.left)
    (write_ok old slot piece n writes.file kept some writes.stood writes.many)
write_rules old slot piece (Err error) new kept some writes = write_stopped error old new slot piece writes
