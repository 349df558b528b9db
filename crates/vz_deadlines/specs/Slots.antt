-- Slots for waiting submissions, in the order in which their deadlines were set.
use Rattle.std.specs.Prelude.{◌≡◌, ℕ, zero, suc, ◌+◌, ◌/◌, ◌≤◌, Bool, true, not, ◌&&◌, ◌==◌, nat_le, Option, Some, None, ⊤, List, [], ◌∷◌, length, map, take, drop, slice_get, IsTrue, IsSome, if◌then◌else◌}
use Rattle.std.specs.List.{list_all}
use Rattle.vz_ids.specs.declared.Sub.{Sub}
use Rattle.vz_ids.specs.Ids.{same_sub}
use Rattle.vz_deadlines.specs.declared.due.Due.{Due}
use Rattle.vz_deadlines.specs.declared.slots.Slot.{Slot}
use Rattle.vz_deadlines.specs.Timing.{waits}

-- the submissions in the slots
unfoldable pub standing : List (Option Due) → List Due
standing [] = []
standing (slot ∷ slots) = elim slot [ Some d ↦ d ∷ standing slots | None ↦ standing slots ]

-- the submission in each slot, if it has one
abbrev pub held_in : List Slot → List (Option Due)
held_in slots = map (λ s. s.due) slots

-- the slot has this submission
abbrev pub stands_at : List (Option Due) → ℕ → Sub → Bool
stands_at slots place s = elim (slice_get slots place) [ Some slot ↦ elim slot [ Some d ↦ same_sub d.sub s | None ↦ not true ] | None ↦ not true ]

-- a slot becomes free once its tick has come
abbrev pub left_in : ℕ → Option Due → Option Due
left_in tick slot = elim slot [ Some d ↦ if nat_le d.tick tick then None else Some d | None ↦ None ]

abbrev pub slot_at : ℕ → Slot → Slot
slot_at tick s = record s { due = left_in tick s.due }

-- no submission in the slots is due before a tick
unfoldable pub are_from : ℕ → List (Option Due) → Bool
are_from tick slots = list_all (λ d. nat_le tick d.tick) (standing slots)

-- the first slot has a tick before which none of the slots is due, and the same holds in each half
-- of the other slots, on so many levels
unfoldable pub AreBounded : ℕ → List Slot → Type 0
AreBounded zero slots = ⊤
AreBounded (suc levels) [] = ⊤
AreBounded (suc levels) (s ∷ slots) =
    IsTrue (are_from s.soonest (held_in (s ∷ slots))) × AreBounded levels (take (length slots / 2) slots) × AreBounded levels (drop (length slots / 2) slots)

-- no slot has a bound for the slots below it
unfoldable pub are_unbounded : List Slot → Bool
are_unbounded slots = list_all (λ s. s.soonest == 0) slots

-- no submission is in two slots
unfoldable pub are_distinct : List Due → Bool
are_distinct [] = true
are_distinct (d ∷ list) = not (waits list d.sub) && are_distinct list

-- the map gives the slot of each submission that is in one
abbrev pub AreFound : (Sub → Option ℕ) → List (Option Due) → Type 0
AreFound place_of slots = (place : ℕ) (d : Due) → slice_get slots place ≡ Some (Some d) → place_of d.sub ≡ Some place

-- the map gives some slot for each such submission
abbrev pub AreTold : (Sub → Option ℕ) → List (Option Due) → Type 0
AreTold place_of slots = (place : ℕ) (d : Due) → slice_get slots place ≡ Some (Some d) → IsSome (place_of d.sub)

-- what always holds of the slots, of the number used and the number that are taken, and of the map
-- with its spare places
pub record AreKept (slots : List (Option Due)) (used count : ℕ) (place_of : Sub → Option ℕ) (spare : ℕ) : Type 0 where
  pub found : AreFound place_of slots
  pub distinct : IsTrue (are_distinct (standing slots))
  pub within : used ≤ length slots
  pub free : standing (drop used slots) ≡ []
  pub waiting : count ≡ length (standing slots)
  pub room : length slots ≤ used + spare
