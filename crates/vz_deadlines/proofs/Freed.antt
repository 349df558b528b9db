-- Slots of which none knows a tick, and slots that become free.
use Rattle.std.proofs.Common.{◌≡◌, ℕ, zero, suc, ◌+◌, ◌-◌, ◌/◌, ◌≤◌, ◌<◌, true, ◌==◌, nat_le, Option, Some, None, is_some, List, [], ◌∷◌, ◌++◌, length, take, drop, slice_set as set, get_or, map, filter, replicate, refl, ap, sym, subst, ◌∙◌, arith}
use Rattle.std.specs.List.{list_all}
use Rattle.std.proofs.lemmas.Bool.Decides.{nat_tests}
use Rattle.std.proofs.lemmas.List.{length-map, append-nil, append_assoc, take_all, drop_all, map-set, length-set, replicate_more}
use Rattle.std.proofs.lemmas.List.Edits.{map_over_more}
use Rattle.vz_deadlines.specs.declared.due.Due.{Due}
use Rattle.vz_deadlines.specs.declared.slots.Slot.{Slot}
use Rattle.vz_deadlines.specs.Slots.{standing, held_in, are_from, are_unbounded, AreBounded}
use Rattle.vz_deadlines.proofs.Stands.{both, two_true, own_default}

abbrev pub forgotten : Slot → Slot
forgotten s = record s { soonest = 0 }

pub forgotten_next : (all now : List Slot) (k : ℕ) (s new : Slot) → k < length all → now ≡ map forgotten (take k all) ++ drop k all → new ≡ forgotten (get_or now k s) → set now k new ≡ map forgotten (take (k + 1) all) ++ drop (k + 1) all
forgotten_next all now k s new inside so_far is = ap (set now k) is ∙ map_over_more forgotten all now k (get_or now k s) inside so_far (own_default now k s)

pub forgotten_all : (all now : List Slot) (k : ℕ) → length all ≤ k → now ≡ map forgotten (take k all) ++ drop k all → now ≡ map forgotten all
forgotten_all all now k over so_far = so_far ∙ ap (λ l. map forgotten (take k all) ++ l) (drop_all k all over) ∙ append-nil (map forgotten (take k all)) ∙ ap (map forgotten) (take_all k all over)

pub forgotten_held : (all : List Slot) → held_in (map forgotten all) ≡ held_in all
forgotten_held [] = refl
forgotten_held (s ∷ all) = ap (λ l. s.due ∷ l) (forgotten_held all)

pub forgotten_ticks : (all : List Slot) → are_unbounded (map forgotten all) ≡ true
unfolding are_unbounded
forgotten_ticks [] = refl
forgotten_ticks (s ∷ all) = forgotten_ticks all

-- slots of which none knows anything are bounded on however many levels

from_zero : (slots : List (Option Due)) → are_from 0 slots ≡ true
unfolding are_from
from_zero slots = all (standing slots)
  where
    all : (list : List Due) → list_all (λ d. nat_le 0 d.tick) list ≡ true
    all [] = refl
    all (d ∷ list) = let rest = all list in grind (arith, nat_tests, rest)

unbounded_take : (n : ℕ) (slots : List Slot) → are_unbounded slots ≡ true → are_unbounded (take n slots) ≡ true
unfolding are_unbounded
unbounded_take zero slots h = refl
unbounded_take (suc n) [] h = refl
unbounded_take (suc n) (s ∷ slots) h = grind (arith, nat_tests, both, two_true, unbounded_take n slots)

unbounded_drop : (n : ℕ) (slots : List Slot) → are_unbounded slots ≡ true → are_unbounded (drop n slots) ≡ true
unfolding are_unbounded
unbounded_drop zero slots h = h
unbounded_drop (suc n) [] h = refl
unbounded_drop (suc n) (s ∷ slots) h = unbounded_drop n slots (both (s.soonest == 0) (list_all (λ s. s.soonest == 0) slots) h).1

first : (s : Slot) (slots : List Slot) → are_unbounded (s ∷ slots) ≡ true → s.soonest ≡ 0
unfolding are_unbounded
first s slots h = let own = (both (s.soonest == 0) (list_all (λ s. s.soonest == 0) slots) h).0 in grind (arith, nat_tests, own)

pub unbounded_bounded : (levels : ℕ) (slots : List Slot) → are_unbounded slots ≡ true → AreBounded levels slots
unfolding AreBounded
unbounded_bounded zero slots h = tt
unbounded_bounded (suc levels) [] h = tt
unbounded_bounded (suc levels) (s ∷ slots) h =
    let own : s.soonest ≡ 0 = first s slots h in
    let rest = unbounded_drop 1 (s ∷ slots) h in (
      ap (λ n. are_from n (held_in (s ∷ slots))) own ∙ from_zero (held_in (s ∷ slots)),
      unbounded_bounded levels (take (length slots / 2) slots) (unbounded_take (length slots / 2) slots rest),
      unbounded_bounded levels (drop (length slots / 2) slots) (unbounded_drop (length slots / 2) slots rest),
    )

-- where one fewer stands, those that stand are bounded still

pub from_freed : (least : ℕ) (slots : List (Option Due)) (place : ℕ) → are_from least slots ≡ true → are_from least (set slots place None) ≡ true
unfolding standing are_from
from_freed least [] place h = refl
from_freed least (None ∷ slots) zero h = h
from_freed least (Some d ∷ slots) zero h = grind (arith, nat_tests, both)
from_freed least (None ∷ slots) (suc place) h = from_freed least slots place h
from_freed least (Some d ∷ slots) (suc place) h = grind (arith, nat_tests, both, two_true, from_freed least slots place)

take_set : (n : ℕ) (slots : List Slot) (place : ℕ) (s : Slot) → take n (set slots place s) ≡ set (take n slots) place s
take_set zero slots place s = refl
take_set (suc n) [] place s = refl
take_set (suc n) (x ∷ slots) zero s = refl
take_set (suc n) (x ∷ slots) (suc place) s = ap (λ l. x ∷ l) (take_set n slots place s)

take_read : (n : ℕ) (slots : List Slot) (place : ℕ) (s : Slot) → s ≡ get_or slots place s → s ≡ get_or (take n slots) place s
take_read zero slots place s is = refl
take_read (suc n) [] place s is = refl
take_read (suc n) (x ∷ slots) zero s is = is
take_read (suc n) (x ∷ slots) (suc place) s is = take_read n slots place s is

-- one that becomes free
abbrev freed : Slot → Slot
freed s = record s { due = None }

-- a part of the slots behind some place
drop_freed : (levels n : ℕ) (slots : List Slot) (place : ℕ) (s : Slot) → s ≡ get_or slots place s → ((slots : List Slot) (place : ℕ) → s ≡ get_or slots place s → AreBounded levels slots → AreBounded levels (set slots place (freed s)))
    → AreBounded levels (drop n slots) → AreBounded levels (drop n (set slots place (freed s)))
drop_freed levels zero slots place s is keep bounded = keep slots place is bounded
drop_freed levels (suc n) [] place s is keep bounded = bounded
drop_freed levels (suc n) (x ∷ slots) zero s is keep bounded = bounded
drop_freed levels (suc n) (x ∷ slots) (suc place) s is keep bounded = drop_freed levels n slots place s is keep bounded

held_freed : (slots : List Slot) (place : ℕ) (s : Slot) → held_in (set slots place (freed s)) ≡ set (held_in slots) place None
held_freed slots place s = map-set (λ (s : Slot). s.due) slots place (freed s)

pub freed_bounded : (levels : ℕ) (slots : List Slot) (place : ℕ) (s : Slot) → s ≡ get_or slots place s → AreBounded levels slots → AreBounded levels (set slots place (freed s))
unfolding AreBounded
freed_bounded zero slots place s is bounded = tt
freed_bounded (suc levels) [] place s is bounded = tt
freed_bounded (suc levels) (x ∷ slots) zero s is bounded =
    (ap (λ (y : Slot). are_from y.soonest (None ∷ held_in slots)) is ∙ from_freed x.soonest (held_in (x ∷ slots)) zero bounded.0, bounded.1, bounded.2)
freed_bounded (suc levels) (x ∷ slots) (suc place) s is bounded =
    let long = length-set slots place (freed s) in
    let half = length slots / 2 in
    let keep = freed_bounded levels in
    let front : AreBounded levels (take half (set slots place (freed s))) = subst (AreBounded levels) (sym (take_set half slots place (freed s))) (keep (take half slots) place s (take_read half slots place s is) bounded.1) in
    let back : AreBounded levels (drop half (set slots place (freed s))) = drop_freed levels half slots place s is (λ l p i b. keep l p s i b) bounded.2 in (
      ap (λ l. are_from x.soonest (x.due ∷ l)) (held_freed slots place s) ∙ from_freed x.soonest (held_in (x ∷ slots)) (suc place) bounded.0,
      subst (λ n. AreBounded levels (take (n / 2) (set slots place (freed s)))) (sym long) front,
      subst (λ n. AreBounded levels (drop (n / 2) (set slots place (freed s)))) (sym long) back,
    )

-- Free slots at the end

pub filled_more : (first old new : List (Option Due)) (k : ℕ) → old ≡ first ++ replicate k None → new ≡ old ++ None ∷ [] → new ≡ first ++ replicate (k + 1) None
filled_more first old new k is more = grind (arith, nat_tests, append_assoc, replicate_more)

-- all of a vector was written
pub whole_written : (items new : List Slot) (n : ℕ) → length new ≡ length items → n ≡ length items → take n (new ++ drop (length new) items) ≡ new
whole_written items new n same long = grind (arith, nat_tests, drop_all (length new) items, append-nil new, take_all n new)

-- those that stand close up
pub closed_held : (slots : List Slot) → held_in (filter (λ s. is_some s.due) slots) ≡ map Some (standing (held_in slots))
unfolding standing
closed_held [] = refl
closed_held (s ∷ slots) = grind (arith, nat_tests, closed_held slots)

pub held_long : (old new : List Slot) → held_in new ≡ held_in old → length new ≡ length old
held_long old new is = sym (length-map new (λ (s : Slot). s.due)) ∙ ap length is ∙ length-map old (λ (s : Slot). s.due)

pub closed_up : (slots kept : List Slot) (old : List (Option Due)) (free : ℕ) → held_in slots ≡ old → kept ≡ filter (λ s. is_some s.due) slots → free ≡ length slots - length kept
    → held_in kept ++ replicate free None ≡ map Some (standing old) ++ replicate (length old - length (standing old)) None
closed_up slots kept old free whole is left = grind (arith, nat_tests, closed_held, length-map)
