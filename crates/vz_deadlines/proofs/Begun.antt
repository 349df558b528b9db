-- What is kept of the slots where a tick begins.
use Rattle.std.proofs.Common.{◌≡◌, ℕ, zero, suc, ◌+◌, ◌-◌, ◌≤◌, Bool, true, false, not, ◌||◌, nat_le, Option, Some, None, List, [], ◌∷◌, ◌++◌, length, take, drop, map, filter, slice_get, refl, ap, sym, inl, inr, ◌∙◌, arith, cond}
use Rattle.std.proofs.lemmas.List.{length-append, length-map, drop_at, drop-map, take_all}
use Rattle.vz_ids.specs.declared.Sub.{Sub}
use Rattle.vz_ids.specs.Ids.{same_sub}
use Rattle.vz_rules.specs.World.{has_sub}
use Rattle.vz_deadlines.specs.declared.due.Due.{Due}
use Rattle.vz_deadlines.specs.Timing.{due_at, left_at}
use Rattle.vz_deadlines.specs.Slots.{standing, left_in, are_distinct, AreKept}
use Rattle.vz_deadlines.proofs.Stands.{left_standing}
use Rattle.vz_deadlines.proofs.Found_at.{by_cases, some_is, apart}
use Rattle.vz_deadlines.proofs.Keeps.{distinct_filter}
use Rattle.std.proofs.lemmas.Bool.Decides.{nat_tests}

-- A tick begins

pub new_ones : (first list before after due : List Sub) → before ≡ first → after ≡ list → list ≡ first ++ due → take (length after - length before) (drop (length before) after) ≡ due
new_ones first list before after due is is' put = grind (arith, nat_tests, length-append first due, drop_at first due (length before), take_all)

get_left : (tick : ℕ) (slots : List (Option Due)) (place : ℕ) (d : Due) → slice_get (map (left_in tick) slots) place ≡ Some (Some d) → (slice_get slots place ≡ Some (Some d)) × (nat_le d.tick tick ≡ false)
get_left tick [] place d at = absurd (cc)
get_left tick (None ∷ slots) zero d at = let no_way : None ≡ Some d = some_is None (Some d) at in absurd (cc)
get_left tick (Some e ∷ slots) zero d at = grind (arith, nat_tests, some_is (cond (nat_le e.tick tick) None (Some e)) (Some d) at, some_is e d)
get_left tick (o ∷ slots) (suc place) d at = get_left tick slots place d at

-- one of those that are due stands in a slot
due_stands : (tick : ℕ) (slots : List (Option Due)) (s : Sub) → has_sub (due_at tick (standing slots)) s ≡ true → (place : ℕ) × (d : Due) × (slice_get slots place ≡ Some (Some d)) × (same_sub s d.sub ≡ true) × (nat_le d.tick tick ≡ true)
unfolding standing due_at
due_stands tick [] s h = absurd (cc)
due_stands tick (None ∷ slots) s h = let rest = due_stands tick slots s h in (suc rest.0, rest.1, rest.2, rest.3, rest.4)
due_stands tick (Some e ∷ slots) s h = by_test (nat_le e.tick tick) refl h (due_stands tick slots s)
  where
    next : ((place : ℕ) × (d : Due) × (slice_get slots place ≡ Some (Some d)) × (same_sub s d.sub ≡ true) × (nat_le d.tick tick ≡ true)) → (place : ℕ) × (d : Due) × (slice_get (Some e ∷ slots) place ≡ Some (Some d)) × (same_sub s d.sub ≡ true) × (nat_le d.tick tick ≡ true)
    next rest = (suc rest.0, rest.1, rest.2, rest.3, rest.4)

    later : (a b : Bool) → a ≡ false → (a || b) ≡ true → b ≡ true
    later true b e h = absurd (cc)
    later false b e h = h

    by_test : (t : Bool) → nat_le e.tick tick ≡ t → has_sub (map (λ (d : Due). d.sub) (cond t (e ∷ filter (λ d. nat_le d.tick tick) (standing slots)) (filter (λ d. nat_le d.tick tick) (standing slots)))) s ≡ true
        → (has_sub (due_at tick (standing slots)) s ≡ true → (place : ℕ) × (d : Due) × (slice_get slots place ≡ Some (Some d)) × (same_sub s d.sub ≡ true) × (nat_le d.tick tick ≡ true))
        → (place : ℕ) × (d : Due) × (slice_get (Some e ∷ slots) place ≡ Some (Some d)) × (same_sub s d.sub ≡ true) × (nat_le d.tick tick ≡ true)
    by_test false own h rest = next (rest h)
    by_test true own h rest =
        elim (by_cases (same_sub s e.sub)) [
          | inl same ↦ (zero, e, refl, same, own)
          | inr other ↦ next (rest (later (same_sub s e.sub) (has_sub (due_at tick (standing slots)) s) other h))
        ]

left_and_due : (tick : ℕ) (list : List Due) → length (left_at tick list) + length (due_at tick list) ≡ length list
unfolding left_at due_at
left_and_due tick [] = refl
left_and_due tick (d ∷ list) = grind (arith, nat_tests, left_and_due tick list)

distinct_left : (tick : ℕ) (list : List Due) → are_distinct list ≡ true → are_distinct (left_at tick list) ≡ true
unfolding left_at
distinct_left tick list h = distinct_filter (λ d. not (nat_le d.tick tick)) list h

none_left : (tick : ℕ) (list : List Due) → list ≡ [] → left_at tick list ≡ []
unfolding left_at
none_left tick list is = ap (left_at tick) is

pub begun_fits : (tick count used spare : ℕ) (slots : List (Option Due)) (place_of : Sub → Option ℕ) (gone : List Sub) → AreKept slots used count place_of spare → gone ≡ due_at tick (standing slots) → length gone ≤ count
begun_fits tick count used spare slots place_of gone kept is = grind (arith, nat_tests, left_and_due tick (standing slots))

pub kept_begun : (tick : ℕ) (slots new : List (Option Due)) (used count spare room : ℕ) (place_of place_of' : Sub → Option ℕ) (gone : List Sub) → AreKept slots used count place_of spare → new ≡ map (left_in tick) slots → gone ≡ due_at tick (standing slots)
    → ((t : Sub) → has_sub gone t ≡ false → place_of' t ≡ place_of t) → spare ≤ room → AreKept new used (count - length gone) place_of' room
kept_begun tick slots new used count spare room place_of place_of' gone kept is due others enough =
    let list = ap standing is ∙ left_standing tick slots in
    let long = ap length is ∙ length-map slots (left_in tick) in
    let parts = left_and_due tick (standing slots) in
    let left = ap length list in
    let taken = ap length due in
    record {
      found = λ place d at.
          let there = get_left tick slots place d (ap (λ l. slice_get l place) (sym is) ∙ at) in
          others d.sub (ap (λ l. has_sub l d.sub) due ∙ not_due place d there.0 there.1) ∙ kept.found place d there.0;
      distinct = ap are_distinct list ∙ distinct_left tick (standing slots) kept.distinct;
      within = omega (arith, long, kept.within);
      free = ap (λ l. standing (drop used l)) is ∙ ap standing (drop-map (left_in tick) used slots) ∙ left_standing tick (drop used slots) ∙ none_left tick (standing (drop used slots)) kept.free;
      waiting = omega (arith, parts, left, taken, kept.waiting);
      room = omega (arith, long, kept.room, enough);
    }
  where
    not_due : (place : ℕ) (d : Due) → slice_get slots place ≡ Some (Some d) → nat_le d.tick tick ≡ false → has_sub (due_at tick (standing slots)) d.sub ≡ false
    not_due place d at later =
        elim (by_cases (has_sub (due_at tick (standing slots)) d.sub)) [
          | inl h ↦ let there = due_stands tick slots d.sub h in
              let here = apart slots place there.0 d there.1 kept.distinct at there.2 there.3 in
              let same = some_is d there.1 (some_is (Some d) (Some there.1) (sym at ∙ ap (slice_get slots) here ∙ there.2)) in
              let no_way : true ≡ false = sym there.4 ∙ ap (λ (x : Due). nat_le x.tick tick) (sym same) ∙ later in absurd (cc)
          | inr h ↦ h
        ]
