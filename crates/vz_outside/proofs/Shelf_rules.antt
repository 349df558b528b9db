-- Rules of the calls of a shelf in memory: what stands still, and what the slots keep.
use Rattle.std.proofs.Common.{◌≡◌, ℕ, ◌<◌, ◌≤◌, Some, List, [], ◌∷◌, ◌++◌, length, slice_get, IsTrue, Ok, Err, refl, sym, ◌∙◌, ap, subst, arith}
use Rattle.std.specs.Option.{option_map, option_map_or}
use Rattle.std.proofs.{lemmas.Option.slice_get_past, lemmas.Bool.Decides.nat_tests}
use Rattle.vz_outside.proofs.{Counting.faultless_counted, Counting.faultless_not_failing, Slots.get-append, Slots.get_end}
use Rattle.vz_outside.proofs.Held.{open_slot, slot_low}
use Rattle.vz_outside.proofs.Rises.{cause_of_failed, cause_of_memory, cause_of_ok, memory_not_failed, ok_not_failed, one_more_least}
use Rattle.vz_outside.specs.InMemory.{InMemory, IsKept, Stops, after_call, after_fault, file_at, mode_of, shelved_of, slot_name}
use Rattle.vz_outside.specs.{Numbered.Numbered, Numbered.after_one_call, Numbered.is_faultless, declared.shelf.ShelfError.ShelfError}
use Rattle.vz_outside.specs.Shelved.{Name, IsCall, IsOpened, KeepsBytes, IsUntouched, StaysFaultless, Behaves, BehavesUnless}
use Rattle.vz_outside.specs.{declared.memory.Slot.Slot, declared.shelf.ShelfError.TheVariants.Failed, declared.shelf.ShelfError.TheVariants.Memory}

-- where calls alone change, nothing else does
pub still_bytes : (shelf : InMemory) (calls : Numbered) → KeepsBytes (shelved_of shelf) (shelved_of (record shelf { calls = calls }))
still_bytes shelf calls = record { files = λ told name. refl; rests = λ told slot mode is. refl }

pub still_untouched : (shelf : InMemory) (calls : Numbered) → IsUntouched (shelved_of shelf) (shelved_of (record shelf { calls = calls }))
still_untouched shelf calls = record { slots = λ slot. refl; bytes = still_bytes shelf calls }

pub still_call : (shelf : InMemory) (calls : Numbered) → shelf.calls.faults ≤ calls.faults → IsCall (shelved_of shelf) (shelved_of (record shelf { calls = calls }))
still_call shelf calls more = grind (arith, nat_tests)

-- a faultless shelf whose calls are counted on is faultless
counted_stays : (old new : InMemory) → new.calls ≡ after_one_call old.calls → IsTrue (is_faultless old.calls) → StaysFaultless (shelved_of old) (shelved_of new)
counted_stays old new after faultless = grind (arith, nat_tests, faultless_counted old.calls faultless)

-- a call that answers behaves
pub ok_behaves :
    {T reason : Type 0} (x : T) (old new : InMemory) → IsCall (shelved_of old) (shelved_of new) → new.calls ≡ after_one_call old.calls →
    BehavesUnless reason (shelved_of old) (shelved_of new) (Ok x)
ok_behaves x old new call after = record {
  call = call;
  cause = cause_of_ok old.calls.faults new.calls.faults x (ap (λ (calls : Numbered). calls.faults) after);
  works = λ faultless same. ok_not_failed x same;
  stays = λ faultless other. counted_stays old new after faultless;
}

-- a call that has no memory behaves
pub memory_behaves :
    {T reason : Type 0} (shelf : InMemory) → BehavesUnless {T = T} reason (shelved_of shelf) (shelved_of (after_call shelf)) (Err Memory)
memory_behaves shelf = record {
  call = still_call shelf (after_call shelf).calls (omega arith);
  cause = cause_of_memory shelf.calls.faults (after_call shelf).calls.faults refl;
  works = λ faultless same. memory_not_failed same;
  stays = λ faultless other. counted_stays shelf (after_call shelf) refl faultless;
}

-- a call that fails behaves
pub failed_behaves :
    {T : Type 0} (reason : Type 0) (shelf : InMemory) → (IsTrue (is_faultless shelf.calls) → reason) →
    BehavesUnless {T = T} reason (shelved_of shelf) (shelved_of (after_fault shelf)) (Err Failed)
failed_behaves reason shelf because = record {
  call = still_call shelf (after_fault shelf).calls (one_more_least shelf.calls.faults);
  cause = cause_of_failed shelf.calls.faults (after_fault shelf).calls.faults refl;
  works = λ faultless same. because faultless;
  stays = λ faultless other. absurd (other refl);
}

-- what a call leaves that stops before its work
pub stopped_untouched : (error : ShelfError) (old new : InMemory) → Stops old error new → IsUntouched (shelved_of old) (shelved_of new)
stopped_untouched error old new stops = grind (arith, nat_tests, still_untouched old (after_fault old).calls, still_untouched old (after_call old).calls)

-- and it behaves
pub stopped_behaves :
    {T : Type 0} (error : ShelfError) (old new : InMemory) → Stops old error new →
    Behaves {T = T} (shelved_of old) (shelved_of new) (Err error)
stopped_behaves {T = T} Failed old new stops =
    subst (λ (m : InMemory). Behaves {T = T} (shelved_of old) (shelved_of m) (Err Failed)) (sym stops.1)
    (failed_behaves ⊥ old (λ faultless. faultless_not_failing old.calls faultless stops.0))
stopped_behaves {T = T} Memory old new stops =
    subst (λ (m : InMemory). Behaves {T = T} (shelved_of old) (shelved_of m) (Err Memory)) (sym stops.1) (memory_behaves old)

-- a slot keeps its file and what it is open for
pub record KeepsSlot (old : Slot) (new : Slot) : Type 0 where
  pub file : new.file ≡ old.file
  pub mode : mode_of new.place ≡ mode_of old.place

pub same_slot : (slot : Slot) → KeepsSlot slot slot
same_slot slot = record { file = refl; mode = refl }

-- slots keep their files and what they are open for, and files their names
pub record KeepsSlots (old new : InMemory) : Type 0 where
  pub slots : (k : ℕ) (slot : Slot) → slice_get old.slots k ≡ Some slot → (moved : Slot) × (slice_get new.slots k ≡ Some moved) × KeepsSlot slot moved
  pub names : (i : ℕ) → i < length old.files → (file_at new.files i).0 ≡ (file_at old.files i).0
  pub faults : old.calls.faults ≤ new.calls.faults

-- such a call keeps the slots and their names
pub call_kept : (old new : InMemory) → IsKept old → KeepsSlots old new → IsCall (shelved_of old) (shelved_of new)
call_kept old new kept keeps = grind (arith, nat_tests, open_slot old.slots, slot_low old)

-- one more slot leaves the others
pub pushed_slots :
    (old : InMemory) (slot : Slot) (k : ℕ) (one : Slot) → slice_get old.slots k ≡ Some one →
    (moved : Slot) × (slice_get (old.slots ++ slot ∷ []) k ≡ Some moved) × KeepsSlot one moved
pushed_slots old slot k one at = (one, get-append old.slots (slot ∷ []) k one at, same_slot one)

-- one more slot was opened
pub pushed_opened :
    (name : Name) (old new : InMemory) (slot : Slot) → new.slots ≡ old.slots ++ slot ∷ [] → slot_name new.files slot ≡ name →
    IsOpened (mode_of slot.place) name (length old.slots) (shelved_of old) (shelved_of new)
pushed_opened name old new slot more named = record {
  free =
      ap (λ o. option_map (λ (one : Slot). mode_of one.place) o) (slice_get_past old.slots (length old.slots) (omega arith));
  taken =
      ap (λ (slots : List Slot). option_map (λ (one : Slot). mode_of one.place) (slice_get slots (length old.slots))) more ∙
      ap (λ o. option_map (λ (one : Slot). mode_of one.place) o) (get_end old.slots slot);
  named = λ told.
      ap (λ (slots : List Slot). option_map_or (slot_name new.files) (slice_get slots (length old.slots)) []) more ∙
      ap (λ o. option_map_or (slot_name new.files) o []) (get_end old.slots slot) ∙ named;
}
