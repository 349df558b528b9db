-- Rules of opening a file of a shelf in memory.
use Rattle.std.proofs.Common.{◌≡◌, ℕ, false, Some, None, [], ◌∷◌, length, Result, Ok, Err, IfOk, OnErr, IsErrOf, refl, sym, ◌∙◌, ap, subst, arith}
use Rattle.std.specs.Option.{option_map_or}
use Rattle.std.proofs.lemmas.Option.{none-some}
use Rattle.vz_outside.proofs.Counting.{faultless_passes}
use Rattle.vz_outside.proofs.{Held.open_slot, Places.bytes_found, Places.bytes_missing, Places.place_named, Slots.get-append, Slots.get_end}
use Rattle.vz_outside.proofs.Shelf_rules.{call_kept, failed_behaves, memory_behaves, ok_behaves, pushed_opened, pushed_slots, still_bytes, still_untouched}
use Rattle.vz_outside.specs.InMemory.{InMemory, IsKept, Opens, after_call, after_fault, first_named, reading_from, shelved_of, slot_rest, with_slot}
use Rattle.vz_outside.specs.{Numbered.is_failing, declared.shelf.ShelfError.TheVariants.Failed, declared.shelf.ShelfError.TheVariants.Memory}
use Rattle.vz_outside.specs.Shelved.{Shelved, Name, Reading, Holds, IsMissing, IsOpened, KeepsBytes, IsUntouched, BehavesUnless}
use Rattle.vz_outside.specs.declared.shelf.ShelfError.{ShelfError}

-- all that a shelf owes of an open
pub record OpenRules (old new : Shelved) (name : Name) (result : Result ℕ ShelfError) : Type 0 where
  pub opened : IfOk result (λ slot. IsOpened Reading name slot old new)
  pub whole : IfOk result (λ slot. Holds (new.rest slot) name old)
  pub missing : IsMissing name old → IsErrOf result Failed
  pub kept : KeepsBytes old new
  pub untouched : OnErr result (IsUntouched old new)
  pub behaves : BehavesUnless (IsMissing name old) old new result

-- a name that is there is not missing
found_not_missing :
    {P : Type 0} (shelf : InMemory) (name : Name) (file : ℕ) → first_named shelf.files name ≡ Some file → IsMissing name (shelved_of shelf) → P
found_not_missing shelf name file found missing =
    absurd (none-some _ (sym missing.1 ∙ bytes_found shelf.files name file found))

-- a slot was opened
open_ok :
    (shelf : InMemory) (name : Name) (file : ℕ) → IsKept shelf → first_named shelf.files name ≡ Some file →
    OpenRules (shelved_of shelf) (shelved_of (with_slot shelf (reading_from file 0))) name (Ok (length shelf.slots))
open_ok shelf name file kept found = record {
  opened =
      pushed_opened name shelf (with_slot shelf (reading_from file 0)) (reading_from file 0) refl
      (place_named shelf.files name file found);
  whole = λ told.
      bytes_found shelf.files name file found ∙
      ap Some (sym (ap (λ o. option_map_or (slot_rest shelf.files) o []) (get_end shelf.slots (reading_from file 0))));
  missing = λ missing. found_not_missing shelf name file found missing;
  kept = record {
    files = λ told n. refl;
    rests = λ told k mode is.
        let was = open_slot shelf.slots k mode is in
        ap (λ o. option_map_or (slot_rest shelf.files) o [])
        (get-append shelf.slots (reading_from file 0 ∷ []) k was.0 was.1 ∙ sym was.1);
  };
  untouched = tt;
  behaves =
      ok_behaves (length shelf.slots) shelf (with_slot shelf (reading_from file 0))
      (call_kept shelf (with_slot shelf (reading_from file 0)) kept
      (record { slots = pushed_slots shelf (reading_from file 0); names = λ i low. refl; faults = omega arith })) refl;
}

-- an open failed
open_failed :
    (shelf : InMemory) (name : Name) → (is_failing shelf.calls ≡ false → first_named shelf.files name ≡ None) →
    OpenRules (shelved_of shelf) (shelved_of (after_fault shelf)) name (Err Failed)
open_failed shelf name missing = record {
  opened = tt;
  whole = tt;
  missing = λ missing. refl;
  kept = still_bytes shelf (after_fault shelf).calls;
  untouched = still_untouched shelf (after_fault shelf).calls;
  behaves =
      failed_behaves (IsMissing name (shelved_of shelf)) shelf
      (λ faultless. (refl, bytes_missing shelf.files name (missing (faultless_passes shelf.calls faultless))));
}

-- an open had no memory
open_memory :
    (shelf : InMemory) (name : Name) (file : ℕ) → first_named shelf.files name ≡ Some file →
    OpenRules (shelved_of shelf) (shelved_of (after_call shelf)) name (Err Memory)
open_memory shelf name file found = record {
  opened = tt;
  whole = tt;
  missing = λ missing. found_not_missing shelf name file found missing;
  kept = still_bytes shelf (after_call shelf).calls;
  untouched = still_untouched shelf (after_call shelf).calls;
  behaves = memory_behaves shelf;
}

-- what an open answers and leaves keeps all rules
pub open_rules :
    (old : InMemory) (name : Name) (result : Result ℕ ShelfError) (new : InMemory) → IsKept old → Opens old name result new →
    OpenRules (shelved_of old) (shelved_of new) name result
open_rules old name (Ok slot) new kept opens =
    subst (λ (n : ℕ). OpenRules (shelved_of old) (shelved_of new) name (Ok n)) (sym opens.1)
    (subst (λ (m : InMemory). OpenRules (shelved_of old) (shelved_of m) name (Ok (length old.slots))) (sym opens.2.2)
    (open_ok old name opens.2.0 kept opens.2.1))
open_rules old name (Err Failed) new kept opens =
    subst (λ (m : InMemory). OpenRules (shelved_of old) (shelved_of m) name (Err Failed)) (sym opens.1) (open_failed old name opens.0)
open_rules old name (Err Memory) new kept opens =
    subst (λ (m : InMemory). OpenRules (shelved_of old) (shelved_of m) name (Err Memory)) (sym opens.0.1)
    (open_memory old name opens.1.0 opens.1.1)
