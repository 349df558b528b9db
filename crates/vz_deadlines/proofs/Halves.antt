-- Slots with a first one and two halves.
use Rattle.std.proofs.Common.{◌≡◌, ℕ, min, zero, suc, ◌-◌, ◌/◌, ◌≤◌, ◌<◌, true, Option, Some, List, ◌∷◌, ◌++◌, length, take, drop, slice_set, IsTrue, refl, sym, subst, arith}
use Rattle.std.proofs.lemmas.List.{length-set, take_at, drop_at, length-map, length-append, length-drop, length-take-le, take-append-drop, map-append, set-append_left, set-append_right}
use Rattle.vz_deadlines.specs.declared.due.Due.{Due}
use Rattle.vz_deadlines.specs.declared.slots.Slot.{Slot}
use Rattle.vz_deadlines.specs.Slots.{held_in, are_from, AreBounded}
use Rattle.vz_deadlines.proofs.Stands.{from_set}
use Rattle.std.proofs.lemmas.Bool.Decides.{nat_tests}

pub bounded_parts : (n : ℕ) (s : Slot) (slots left right : List Slot) → slots ≡ left ++ right → length left ≡ length slots / 2 → IsTrue (are_from s.soonest (held_in (s ∷ slots))) → AreBounded n left → AreBounded n right → AreBounded (suc n) (s ∷ slots)
unfolding AreBounded
bounded_parts n s slots left right is long from first second = grind (arith, nat_tests, take_at left right, drop_at left right)

pub parts_bounded : (n : ℕ) (s : Slot) (slots : List Slot) → AreBounded (suc n) (s ∷ slots) → IsTrue (are_from s.soonest (held_in (s ∷ slots))) × AreBounded n (take (length slots / 2) slots) × AreBounded n (drop (length slots / 2) slots)
unfolding AreBounded
parts_bounded n s slots h = h

pub bounded_none : (levels : ℕ) (slots : List Slot) → levels ≡ zero → AreBounded levels slots
unfolding AreBounded
bounded_none levels slots is = subst (λ n. AreBounded n slots) (sym is) tt

from_pred : (n : ℕ) → 0 < n → n ≡ suc (n - 1)
from_pred n some = omega (arith, some)

half_long : (rest : List Slot) → length (take (length rest / 2) rest) ≡ length rest / 2
half_long rest = length-take-le (length rest / 2) rest (omega arith)

pub half_kept : (rest left right first second : List Slot) → left ≡ take (length rest / 2) rest → right ≡ drop (length rest / 2) rest → length first ≡ length left → length second ≡ length right → length first ≡ length (first ++ second) / 2
half_kept rest left right first second front back as_long as_long' = grind (arith, nat_tests, length-append first second, half_long rest, length-drop)

-- a first slot before two halves
pub joined : (levels : ℕ) (s : Slot) (left right : List Slot) → 0 < levels → length left ≡ length (left ++ right) / 2 → IsTrue (are_from s.soonest (held_in (s ∷ (left ++ right)))) → AreBounded (levels - 1) left → AreBounded (levels - 1) right
    → AreBounded levels (s ∷ (left ++ right))
joined levels s left right some half from first second = grind (arith, nat_tests, from_pred levels some, bounded_parts)

pub parted : (levels : ℕ) (s : Slot) (slots rest left right : List Slot) → 0 < levels → slots ≡ s ∷ rest → left ≡ take (length rest / 2) rest → right ≡ drop (length rest / 2) rest → AreBounded levels slots
    → IsTrue (are_from s.soonest (held_in slots)) × AreBounded (levels - 1) left × AreBounded (levels - 1) right
parted levels s slots rest left right some is first second bounded = grind (arith, nat_tests, parts_bounded, from_pred levels some)

suc_pred : (n : ℕ) → 0 < n → suc (n - 1) ≡ n
suc_pred n some = omega (arith, some)

-- what is written in one half

pub set_left : (slots : List Slot) (s : Slot) (rest left right new : List Slot) (place : ℕ) (d : Due) → slots ≡ s ∷ rest → rest ≡ left ++ right → 0 < place → place - 1 < length left
    → held_in new ≡ slice_set (held_in left) (place - 1) (Some d) → s.due ∷ held_in (new ++ right) ≡ slice_set (held_in slots) place (Some d)
set_left slots s rest left right new place d is parts some inside written = grind (arith, nat_tests, map-append, set-append_left, length-map, suc_pred)

pub set_right : (slots : List Slot) (s : Slot) (rest left right new : List Slot) (place half : ℕ) (d : Due) → slots ≡ s ∷ rest → rest ≡ left ++ right → 0 < place → length left ≡ half → half ≤ place - 1
    → held_in new ≡ slice_set (held_in right) (place - 1 - half) (Some d) → s.due ∷ held_in (left ++ new) ≡ slice_set (held_in slots) place (Some d)
set_right slots s rest left right new place half d is parts some long past written = grind (arith, nat_tests, map-append, set-append_right, length-map, suc_pred)

-- one that is put into the first slot
pub put_here : (levels : ℕ) (s : Slot) (slots rest : List Slot) (d : Due) (least : ℕ) → 0 < levels → slots ≡ s ∷ rest → least ≡ min s.soonest d.tick → AreBounded levels slots
    → AreBounded levels (record { due = Some d; soonest = least } ∷ rest)
put_here levels s slots rest d least some is own bounded =
    let parts = parts_bounded (levels - 1) s rest (subst (λ n. AreBounded n (s ∷ rest)) (from_pred levels some) (subst (AreBounded levels) is bounded)) in
    subst (λ n. AreBounded n (record { due = Some d; soonest = least } ∷ rest)) (sym (from_pred levels some))
    (bounded_parts (levels - 1) (record { due = Some d; soonest = least }) rest (take (length rest / 2) rest) (drop (length rest / 2) rest) (sym (take-append-drop (length rest / 2) rest)) (half_long rest)
    (from_set least s.soonest (held_in (s ∷ rest)) zero d (omega (arith, own)) (omega (arith, own)) parts.0) parts.1 parts.2)

-- the slots are joined again after one was put into a half
pub put_there : (levels : ℕ) (s : Slot) (slots rest left right first second : List Slot) (place : ℕ) (d : Due) (least : ℕ) → 0 < levels → slots ≡ s ∷ rest → left ≡ take (length rest / 2) rest → right ≡ drop (length rest / 2) rest
    → least ≡ min s.soonest d.tick → s.due ∷ held_in (first ++ second) ≡ slice_set (held_in slots) place (Some d) → length first ≡ length left → length second ≡ length right
    → (AreBounded (levels - 1) left → AreBounded (levels - 1) first) → (AreBounded (levels - 1) right → AreBounded (levels - 1) second) → AreBounded levels slots
    → AreBounded levels (record { due = s.due; soonest = least } ∷ (first ++ second))
put_there levels s slots rest left right first second place d least some is front back own held as_long as_long' keep keep' bounded =
    let parts = parted levels s slots rest left right some is front back bounded in
    joined levels (record { due = s.due; soonest = least }) first second some (half_kept rest left right first second front back as_long as_long')
    (subst (λ l. IsTrue (are_from least l)) (sym held) (from_set least s.soonest (held_in slots) place d (omega (arith, own)) (omega (arith, own)) parts.0))
    (keep parts.1) (keep' parts.2)

pub written_long : (old new : List Slot) (place : ℕ) (slot : Option Due) → held_in new ≡ slice_set (held_in old) place slot → length new ≡ length old
written_long old new place slot is = grind (arith, nat_tests, length-map, length-set)

pub from_first : (levels : ℕ) (s : Slot) (slots rest : List Slot) → 0 < levels → slots ≡ s ∷ rest → AreBounded levels slots → are_from s.soonest (held_in slots) ≡ true
from_first levels s slots rest some is bounded = (parted levels s slots rest (take (length rest / 2) rest) (drop (length rest / 2) rest) some is refl refl bounded).0
