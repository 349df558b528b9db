-- Laws on what a shelf in memory holds: what files and slots keep, and what always holds of it.
use Rattle.std.proofs.Common.{◌≡◌, ◌≢◌, ℕ, ◌+◌, ◌-◌, min, ◌<◌, ◌⊎◌, inl, inr, false, Option, Some, None, List, [], ◌∷◌, ◌++◌, length, set, take, drop, slice_get, get_or, refl, sym, ◌∙◌, ap, subst, arith}
use Rattle.std.specs.Option.{option_map}
use Rattle.std.proofs.{lemmas.List.get_or_append_left, lemmas.Bool.Decides.nat_tests, lemmas.Grind.common_steps}
use Rattle.std.proofs.lemmas.Option.{none-some, same_Some, slice_get_read, slice_get_within}
use Rattle.vz_outside.proofs.Places.{place_low, place_named, place-set, place-append, place_other, emptied_there, emptied_new, bytes_found, bytes_missing}
use Rattle.vz_outside.proofs.Slots.{get_push, get_set_cases}
use Rattle.vz_outside.specs.InMemory.{File, InMemory, IsKept, Moves, Puts, file_at, mode_of, first_named, bytes_in, emptied, extended, slot_name}
use Rattle.vz_outside.specs.{Numbered.Numbered, Numbered.after_one_call, Numbered.is_failing, declared.memory.Slot.Slot, declared.memory.Place.Place}
use Rattle.vz_outside.specs.{Shelved.Name, Shelved.Mode, Shelved.Writing, declared.memory.Place.TheVariants.At, declared.memory.Place.TheVariants.End}

-- files changed in the bytes of one name alone, which may be new
pub record ChangesOne (name : Name) (old new : List File) : Type 0 where
  pub places : (n : Name) (i : ℕ) → first_named old n ≡ Some i → first_named new n ≡ Some i
  pub names : (i : ℕ) → i < length old → (file_at new i).0 ≡ (file_at old i).0
  pub others : (i : ℕ) → i < length old → (file_at old i).0 ≢ name → file_at new i ≡ file_at old i
  pub missing : (n : Name) → n ≢ name → first_named old n ≡ None → first_named new n ≡ None

-- a place is known, or there is none
pub place_cases : (files : List File) (name : Name) → ((i : ℕ) × (first_named files name ≡ Some i)) ⊎ (first_named files name ≡ None)
place_cases files name = split (first_named files name) refl
  where
    split : (place : Option ℕ) → first_named files name ≡ place → ((i : ℕ) × (first_named files name ≡ Some i)) ⊎ (first_named files name ≡ None)
    split None is = inr is
    split (Some i) is = inl (i, is)

-- the bytes of other names stay
pub other_bytes : (name other : Name) (old new : List File) → ChangesOne name old new → other ≢ name → bytes_in new other ≡ bytes_in old other
other_bytes name other old new change differs = grind (arith, nat_tests, place_cases, place_low, place_named, bytes_found, bytes_missing)

-- other bytes in a file change its name alone
pub change-set : (files : List File) (i : ℕ) (bytes : List ℕ) → ChangesOne (file_at files i).0 files (set files i ((file_at files i).0, bytes))
change-set files i bytes = grind (arith, nat_tests, common_steps, place-set files i bytes)

-- a file of a new name behind the others changes this name alone
pub change-append : (files : List File) (name : Name) (bytes : List ℕ) → ChangesOne name files (files ++ (name, bytes) ∷ [])
change-append files name bytes = grind (arith, nat_tests, place-append files ((name, bytes) ∷ []), get_or_append_left files, place_other files name)

-- a name is emptied or made, and no other changes
pub change_emptied : (files : List File) (name : Name) → ChangesOne name files (emptied files name)
change_emptied files name =
    elim (place_cases files name) [
      | inl found ↦
          subst (λ (new : List File). ChangesOne name files new) (sym (emptied_there files name found.0 found.1))
          (subst (λ (n : Name). ChangesOne n files (set files found.0 (n, []))) (place_named files name found.0 found.1)
          (change-set files found.0 []))
      | inr none ↦ subst (λ (new : List File). ChangesOne name files new) (sym (emptied_new files name none)) (change-append files name [])
    ]

-- with one file changed all slots keep theirs
pub kept_files :
    (name : Name) (shelf : InMemory) (files : List File) (calls : Numbered) →
    IsKept shelf → ChangesOne name shelf.files files → IsKept (record shelf { files = files; calls = calls })
kept_files name shelf files calls kept change = record {
  first = λ k slot at.
      let found = kept.first k slot at in
      ap (λ (n : Name). first_named files n) (change.names slot.file (place_low shelf.files _ _ found)) ∙
      change.places (slot_name shelf.files slot) slot.file found;
  some = kept.some;
}

-- with one more slot all slots have the first file of a name
pub kept_push :
    (shelf : InMemory) (slot : Slot) (calls : Numbered) →
    IsKept shelf → first_named shelf.files (slot_name shelf.files slot) ≡ Some slot.file →
    IsKept (record shelf { slots = shelf.slots ++ slot ∷ []; calls = calls })
kept_push shelf slot calls kept first = record {
  first = λ k one at.
      elim (get_push shelf.slots slot k one at) [
        | inl before ↦ kept.first k one before
        | inr same ↦ subst (λ (s : Slot). first_named shelf.files (slot_name shelf.files s) ≡ Some s.file) (sym same) first
      ];
  some = kept.some;
}

-- with a slot moved on in its file all slots have the first file of a name
pub kept-set :
    (shelf : InMemory) (k : ℕ) (slot moved : Slot) (calls : Numbered) →
    IsKept shelf → slice_get shelf.slots k ≡ Some slot → moved.file ≡ slot.file →
    IsKept (record shelf { slots = set shelf.slots k moved; calls = calls })
kept-set shelf k slot moved calls kept at same = record {
  first = λ j one there.
      elim (get_set_cases shelf.slots k moved j one there) [
        | inl before ↦ kept.first j one before
        | inr is ↦
            subst (λ (s : Slot). first_named shelf.files (slot_name shelf.files s) ≡ Some s.file) (sym is)
            (subst (λ (file : ℕ). first_named shelf.files (file_at shelf.files file).0 ≡ Some file) (sym same) (kept.first k slot at))
      ];
  some = kept.some;
}

-- an open slot, and what it is open for
pub open_slot : (slots : List Slot) (k : ℕ) (mode : Mode) → option_map (λ slot. mode_of slot.place) (slice_get slots k) ≡ Some mode →
    (slot : Slot) × (slice_get slots k ≡ Some slot) × (mode_of slot.place ≡ mode)
open_slot slots k mode is = split (slice_get slots k) refl is
  where
    split : (o : Option Slot) → slice_get slots k ≡ o → option_map (λ (slot : Slot). mode_of slot.place) o ≡ Some mode →
        (slot : Slot) × (slice_get slots k ≡ Some slot) × (mode_of slot.place ≡ mode)
    split None at none = absurd (none-some mode none)
    split (Some slot) at some = (slot, at, same_Some (mode_of slot.place) mode some)

-- the slot that was read from the list of slots
pub slot_read :
    (slots seen : List Slot) (k : ℕ) (mode : Mode) (slot : Slot) → slots ≡ seen →
    option_map (λ open_slot. mode_of open_slot.place) (slice_get seen k) ≡ Some mode → slot ≡ get_or slots k slot →
    (k < length slots) × (slice_get slots k ≡ Some slot) × (mode_of slot.place ≡ mode)
slot_read slots seen k mode slot same is at =
    let found = open_slot seen k mode is in
    let there : slice_get slots k ≡ Some found.0 = ap (λ (all : List Slot). slice_get all k) same ∙ found.1 in
    let low : k < length slots = slice_get_within slots k found.0 there in
    let here : slice_get slots k ≡ Some slot = slice_get_read slots (length slots) k slot refl low at in
    (low, here, ap (λ (one : Slot). mode_of one.place) (same_Some slot found.0 (sym here ∙ there)) ∙ found.2)

-- a slot's file is there
pub slot_low : (shelf : InMemory) (k : ℕ) (slot : Slot) → IsKept shelf → slice_get shelf.slots k ≡ Some slot → slot.file < length shelf.files
slot_low shelf k slot kept at = place_low shelf.files (slot_name shelf.files slot) slot.file (kept.first k slot at)

-- a read was made
pub moves_made :
    (shelf : InMemory) (k room n : ℕ) (piece bytes : List ℕ) (next : ℕ) (slot : Slot) (calls : Numbered) →
    slice_get shelf.slots k ≡ Some slot → slot.place ≡ At next → (file_at shelf.files slot.file).1 ≡ bytes →
    n ≡ min shelf.piece (min room (length bytes - next)) →
    drop next bytes ≡ take n piece ++ drop (next + n) bytes → is_failing shelf.calls ≡ false → calls ≡ after_one_call shelf.calls →
    Moves shelf k room piece n
    (record shelf { slots = set shelf.slots k (record { file = slot.file; place = At (next + n) }); calls = calls })
moves_made shelf k room n piece bytes next slot calls at stands holds many moved passes after = record {
  file = slot.file;
  next = next;
  passes = passes;
  stood = at ∙ ap (λ (place : Place). Some (record { file = slot.file; place = place })) stands;
  many = subst (λ (b : List ℕ). n ≡ min shelf.piece (min room (length b - next))) (sym holds) many;
  moved = subst (λ (b : List ℕ). drop next b ≡ take n piece ++ drop (next + n) b) (sym holds) moved;
  left =
      ap (λ (c : Numbered).
      record shelf { slots = set shelf.slots k (record { file = slot.file; place = At (next + n) }); calls = c }) after;
}

-- a write was made
pub puts_made :
    (shelf : InMemory) (k n : ℕ) (piece : List ℕ) (slot : Slot) (files : List File) (calls : Numbered) →
    slice_get shelf.slots k ≡ Some slot → slot.place ≡ End → n ≡ min shelf.piece (length piece) →
    files ≡ extended shelf.files slot.file (take n piece) → is_failing shelf.calls ≡ false → calls ≡ after_one_call shelf.calls →
    Puts shelf k piece n (record shelf { files = files; calls = calls })
puts_made shelf k n piece slot files calls at stands many longer passes after = record {
  file = slot.file;
  passes = passes;
  stood = at ∙ ap (λ (place : Place). Some (record { file = slot.file; place = place })) stands;
  many = many;
  left =
      ap (λ (all : List File). record shelf { files = all; calls = calls }) longer ∙
      ap (λ (c : Numbered). record shelf { files = extended shelf.files slot.file (take n piece); calls = c }) after;
}

-- a slot that is open for writing stands at the end
pub stands_at_end : (place : Place) → mode_of place ≡ Writing → place ≡ End
stands_at_end place is = grind (arith, nat_tests)
