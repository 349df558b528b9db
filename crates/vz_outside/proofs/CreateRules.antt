-- Rules of making a file of a shelf in memory.
use Rattle.std.proofs.Common.{◌≡◌, ◌≢◌, ℕ, Some, List, [], ◌∷◌, ◌++◌, length, set, Result, Ok, Err, IfOk, OnOk, OnErr, inl, inr, refl, sym, ◌∙◌, ap, subst, arith, get_or-set_same}
use Rattle.std.specs.Option.{option_map_or}
use Rattle.std.proofs.lemmas.List.{get_or_push}
use Rattle.vz_outside.proofs.{Calls.kept_of_untouched, Slots.get-append}
use Rattle.vz_outside.proofs.Held.{ChangesOne, change_emptied, open_slot, other_bytes, place_cases, slot_low}
use Rattle.vz_outside.proofs.Places.{bytes_found, emptied_new, emptied_there, place_emptied, place_low, place_named, place_new}
use Rattle.vz_outside.proofs.Shelf_rules.{call_kept, ok_behaves, pushed_opened, pushed_slots, stopped_behaves, stopped_untouched}
use Rattle.vz_outside.specs.InMemory.{File, InMemory, IsKept, Creates, Stops, bytes_in, emptied, file_at, first_named, shelved_of, slot_name, slot_rest, unread, with_slot, writing_to}
use Rattle.vz_outside.specs.Shelved.{Shelved, Name, Writing, Holds, IsOpened, KeepsOthers, IsUntouched, Behaves}
use Rattle.vz_outside.specs.declared.shelf.ShelfError.{ShelfError}

-- all that a shelf owes of a create
pub record CreateRules (old new : Shelved) (name : Name) (result : Result ℕ ShelfError) : Type 0 where
  pub opened : IfOk result (λ slot. IsOpened Writing name slot old new)
  pub emptied : OnOk result (Holds [] name new)
  pub others : KeepsOthers name old new
  pub untouched : OnErr result (IsUntouched old new)
  pub behaves : Behaves old new result

-- an emptied name has no bytes
emptied_bytes : (files : List File) (name : Name) → bytes_in (emptied files name) name ≡ Some []
emptied_bytes files name =
    elim (place_cases files name) [
      | inl found ↦
          ap (λ (all : List File). bytes_in all name) (emptied_there files name found.0 found.1) ∙
          bytes_found (set files found.0 (name, [])) name found.0 (place_emptied files name found.0 found.1) ∙
          ap (λ (f : File). Some f.1) (get_or-set_same files found.0 (name, []) ([], []) (place_low files name found.0 found.1))
      | inr none ↦
          ap (λ (all : List File). bytes_in all name) (emptied_new files name none) ∙
          bytes_found (files ++ (name, []) ∷ []) name (length files) (place_new files name [] none) ∙
          ap (λ (f : File). Some f.1) (get_or_push files (name, []) ([], []) (length files) refl)
    ]

-- the shelf with a name emptied and one more slot
abbrev made : InMemory → Name → ℕ → InMemory
made shelf name file = record (with_slot shelf (writing_to file)) { files = emptied shelf.files name }

-- a file was made
create_ok :
    (shelf : InMemory) (name : Name) (file : ℕ) → IsKept shelf → first_named (emptied shelf.files name) name ≡ Some file →
    CreateRules (shelved_of shelf) (shelved_of (made shelf name file)) name (Ok (length shelf.slots))
create_ok shelf name file kept found = record {
  opened =
      pushed_opened name shelf (made shelf name file) (writing_to file) refl
      (place_named (emptied shelf.files name) name file found);
  emptied = λ told. emptied_bytes shelf.files name;
  others = record {
    files = λ told n differs. other_bytes name n shelf.files (emptied shelf.files name) change differs;
    rests = λ told k mode is differs.
        let was = open_slot shelf.slots k mode is in
        let other : (file_at shelf.files was.0.file).0 ≢ name =
        λ same. differs (ap (λ o. option_map_or (slot_name shelf.files) o []) was.1 ∙ same) in
        ap (λ o. option_map_or (slot_rest (emptied shelf.files name)) o [])
        (get-append shelf.slots (writing_to file ∷ []) k was.0 was.1) ∙
        ap (λ (f : File). unread f.1 was.0.place)
        (change.others was.0.file (slot_low shelf k was.0 kept was.1) other) ∙
        sym (ap (λ o. option_map_or (slot_rest shelf.files) o []) was.1);
  };
  untouched = tt;
  behaves =
      ok_behaves (length shelf.slots) shelf (made shelf name file)
      (call_kept shelf (made shelf name file) kept
      (record { slots = pushed_slots shelf (writing_to file); names = change.names; faults = omega arith })) refl;
}
  where
    change : ChangesOne name shelf.files (emptied shelf.files name)
    change = change_emptied shelf.files name

-- a create stopped before its work
create_stopped :
    (error : ShelfError) (old new : InMemory) (name : Name) → Stops old error new →
    CreateRules (shelved_of old) (shelved_of new) name (Err error)
create_stopped error old new name stops = record {
  opened = tt;
  emptied = tt;
  others = kept_of_untouched name (shelved_of old) (shelved_of new) (stopped_untouched error old new stops);
  untouched = stopped_untouched error old new stops;
  behaves = stopped_behaves error old new stops;
}

-- what a create answers and leaves keeps all rules
pub create_rules :
    (old : InMemory) (name : Name) (result : Result ℕ ShelfError) (new : InMemory) → IsKept old → Creates old name result new →
    CreateRules (shelved_of old) (shelved_of new) name result
create_rules old name (Ok slot) new kept creates =
    subst (λ (n : ℕ). CreateRules (shelved_of old) (shelved_of new) name (Ok n)) (sym creates.1)
    (subst (λ (m : InMemory). CreateRules (shelved_of old) (shelved_of m) name (Ok (length old.slots))) (sym creates.2.2)
    (create_ok old name creates.2.0 kept creates.2.1))
create_rules old name (Err error) new kept creates = create_stopped error old new name creates
