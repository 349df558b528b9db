-- Those that stand in slots, as slots are joined and taken from.
use Rattle.std.proofs.Common.{◌≡◌, ℕ, zero, suc, ◌+◌, ◌≤◌, ◌<◌, Bool, true, false, ◌&&◌, nat_le, Option, Some, None, List, [], ◌∷◌, ◌++◌, length, take, drop, slice_set as set, get_or, min, map, replicate, refl, ap, sym, ◌∙◌, arith}
use Rattle.std.specs.List.{list_all}
use Rattle.std.proofs.lemmas.List.{append-nil, append_assoc, length-append, length-map, length-take-le, map-append, map_more, take_more, drop_more, take-append-drop, get_or_at, nil_from_length}
use Rattle.std.proofs.lemmas.List.Edits.{map_over_more}
use Rattle.std.proofs.lemmas.Bool.Decides.{nat_tests}
use Rattle.vz_ids.specs.declared.Sub.{Sub}
use Rattle.vz_deadlines.specs.declared.due.Due.{Due}
use Rattle.vz_deadlines.specs.Timing.{due_at, left_at}
use Rattle.vz_deadlines.specs.declared.slots.Slot.{Slot}
use Rattle.vz_deadlines.specs.Slots.{standing, held_in, left_in, slot_at, are_from}
use Rattle.vz_deadlines.proofs.Dues.{due_append, one_due, one_later, none_due, all_later}
pub use Rattle.std.proofs.lemmas.Bool.{and_parts as both, and_from as two_true}

pub standing_append : (xs ys : List (Option Due)) → standing (xs ++ ys) ≡ standing xs ++ standing ys
unfolding standing
standing_append [] ys = refl
standing_append (Some d ∷ xs) ys = ap (λ l. d ∷ l) (standing_append xs ys)
standing_append (None ∷ xs) ys = standing_append xs ys

pub standing_fits : (slots : List (Option Due)) → length (standing slots) ≤ length slots
unfolding standing
standing_fits [] = omega arith
standing_fits (Some d ∷ slots) = let rest = standing_fits slots in omega (arith, rest)
standing_fits (None ∷ slots) = let rest = standing_fits slots in omega (arith, rest)

pub standing_free : (n : ℕ) → standing (replicate n None) ≡ []
unfolding standing
standing_free zero = refl
standing_free (suc n) = standing_free n

-- the slots of a part stand one after the other, and are due so
pub due_slots : (tick : ℕ) (xs ys : List (Option Due)) → due_at tick (standing (xs ++ ys)) ≡ due_at tick (standing xs) ++ due_at tick (standing ys)
due_slots tick xs ys = ap (due_at tick) (standing_append xs ys) ∙ due_append tick (standing xs) (standing ys)

pub due_fits : (tick : ℕ) (list : List Due) → length (due_at tick list) ≤ length list
unfolding due_at
due_fits tick [] = omega arith
due_fits tick (d ∷ list) = grind (arith, nat_tests, due_fits tick list)

-- In one slot

pub due_here : (tick : ℕ) (slot : Option Due) (d : Due) → slot ≡ Some d → nat_le d.tick tick ≡ true → due_at tick (standing (slot ∷ [])) ≡ d.sub ∷ []
unfolding standing
due_here tick slot d is e = ap (λ s. due_at tick (standing (s ∷ []))) is ∙ one_due tick d e

pub later_here : (tick : ℕ) (slot : Option Due) (d : Due) → slot ≡ Some d → nat_le d.tick tick ≡ false → due_at tick (standing (slot ∷ [])) ≡ []
unfolding standing
later_here tick slot d is e = ap (λ s. due_at tick (standing (s ∷ []))) is ∙ one_later tick d e

pub none_here : (tick : ℕ) (slot : Option Due) → slot ≡ None → due_at tick (standing (slot ∷ [])) ≡ []
unfolding standing due_at
none_here tick slot is = ap (λ s. due_at tick (standing (s ∷ []))) is

pub one_here : (slot : Option Due) (d : Due) → slot ≡ Some d → length (standing (slot ∷ [])) ≡ 1
unfolding standing
one_here slot d is = ap (λ s. length (standing (s ∷ []))) is

pub from_itself : (slot : Option Due) (d : Due) → slot ≡ Some d → are_from d.tick (slot ∷ []) ≡ true
unfolding standing are_from
from_itself slot d is = ap (λ s. are_from d.tick (s ∷ [])) is ∙ grind (arith, nat_tests)

pub from_none : (least : ℕ) (slot : Option Due) → slot ≡ None → are_from least (slot ∷ []) ≡ true
unfolding standing are_from
from_none least slot is = ap (λ s. are_from least (s ∷ [])) is

-- From a tick on

all_append : (p : Due → Bool) (xs ys : List Due) → list_all p (xs ++ ys) ≡ (list_all p xs && list_all p ys)
all_append p [] ys = refl
all_append p (x ∷ xs) ys = grind (arith, nat_tests, all_append p xs ys)

pub from_append : (least : ℕ) (xs ys : List (Option Due)) → are_from least xs ≡ true → are_from least ys ≡ true → are_from least (xs ++ ys) ≡ true
unfolding are_from
from_append least xs ys first second = grind (arith, nat_tests, standing_append xs ys, all_append, two_true)

pub from_less : (less more : ℕ) (slots : List (Option Due)) → less ≤ more → are_from more slots ≡ true → are_from less slots ≡ true
unfolding are_from
from_less less more slots below from = all_later less more (standing slots) below from

-- What a tick leaves

pub left_standing : (tick : ℕ) (slots : List (Option Due)) → standing (map (left_in tick) slots) ≡ left_at tick (standing slots)
unfolding standing left_at
left_standing tick [] = refl
left_standing tick (None ∷ slots) = left_standing tick slots
left_standing tick (Some d ∷ slots) = grind (arith, nat_tests, left_standing tick slots)

-- one more stands from then on
pub from_set : (least more : ℕ) (slots : List (Option Due)) (place : ℕ) (d : Due) → least ≤ more → least ≤ d.tick → are_from more slots ≡ true → are_from least (set slots place (Some d)) ≡ true
unfolding standing are_from
from_set least more [] place d below own from = refl
from_set least more (slot ∷ slots) zero d below own from = grind (arith, nat_tests, two_true, from_less)
from_set least more (None ∷ slots) (suc place) d below own from = from_set least more slots place d below own from
from_set least more (Some e ∷ slots) (suc place) d below own from = grind (arith, nat_tests, both, two_true, from_set least more slots place d below own)

-- Through slots one after the other

pub own_default : (xs : List Slot) (i : ℕ) (d : Slot) → get_or xs i d ≡ get_or xs i (get_or xs i d)
own_default [] i d = refl
own_default (x ∷ xs) zero d = refl
own_default (x ∷ xs) (suc i) d = own_default xs i d

-- what stands when so many slots were gone through
pub record AreTaken (tick : ℕ) (all now : List Slot) (k soonest : ℕ) (first : List Sub) (before : ℕ) (put : List Sub) (room : ℕ) : Type 0 where
  pub slots : now ≡ map (slot_at tick) (take k all) ++ drop k all
  pub out : put ≡ first ++ due_at tick (standing (held_in (take k all)))
  pub spare : before ≡ room + length (due_at tick (standing (held_in (take k all))))
  pub least : are_from soonest (held_in (map (slot_at tick) (take k all))) ≡ true

pub taken_none : (tick least : ℕ) (all : List Slot) (first : List Sub) (spare : ℕ) → AreTaken tick all all 0 least first spare first spare
unfolding standing due_at are_from
taken_none tick least all first spare = record { slots = refl; out = sym (append-nil first); spare = omega arith; least = refl }

held_more : (all : List Slot) (k : ℕ) (s : Slot) → k < length all → held_in (take (k + 1) all) ≡ held_in (take k all) ++ (get_or all k s).due ∷ []
held_more all k s inside = ap held_in (take_more all k s inside) ∙ map-append (λ (s : Slot). s.due) (take k all) (get_or all k s ∷ [])

due_more : (tick : ℕ) (all : List Slot) (k : ℕ) (s : Slot) → k < length all
    → due_at tick (standing (held_in (take (k + 1) all))) ≡ due_at tick (standing (held_in (take k all))) ++ due_at tick (standing ((get_or all k s).due ∷ []))
due_more tick all k s inside = ap (λ l. due_at tick (standing l)) (held_more all k s inside) ∙ due_slots tick (held_in (take k all)) ((get_or all k s).due ∷ [])

here_is : (tick : ℕ) (all now : List Slot) (k : ℕ) (s : Slot) → k < length all → now ≡ map (slot_at tick) (take k all) ++ drop k all → get_or now k s ≡ get_or all k s
here_is tick all now k s inside is = grind (arith, nat_tests, length-map, length-take-le, drop_more, get_or_at)

-- there is room for the one that is next
pub taken_room : (tick least k spare room : ℕ) (all now : List Slot) (s : Slot) (first out : List Sub) → k < length all → length (standing (held_in all)) ≤ spare → AreTaken tick all now k least first spare out room
    → length (standing ((get_or now k s).due ∷ [])) ≤ room
taken_room tick least k spare room all now s first out inside enough taken =
    let few = due_fits tick (standing (held_in (take k all))) in
    let parts : held_in all ≡ held_in (take k all) ++ ((get_or all k s).due ∷ held_in (drop (k + 1) all)) =
    ap held_in (sym (take-append-drop k all) ∙ ap (λ l. take k all ++ l) (drop_more all k s inside)) ∙ map-append (λ (s : Slot). s.due) (take k all) (get_or all k s ∷ drop (k + 1) all) in
    let one = ap length (standing_append ((get_or all k s).due ∷ []) (held_in (drop (k + 1) all))) ∙ length-append (standing ((get_or all k s).due ∷ [])) (standing (held_in (drop (k + 1) all))) in
    let whole = ap (λ l. length (standing l)) parts ∙ ap length (standing_append (held_in (take k all)) ((get_or all k s).due ∷ held_in (drop (k + 1) all)))
    ∙ length-append (standing (held_in (take k all))) (standing ((get_or all k s).due ∷ held_in (drop (k + 1) all))) in
    let here = ap (λ (s : Slot). length (standing (s.due ∷ []))) (here_is tick all now k s inside taken.slots) in
    omega (arith, few, one, whole, here, enough, taken.spare)

pub taken_next : (tick least less k spare room left : ℕ) (all now : List Slot) (s new : Slot) (first out more : List Sub) → k < length all → AreTaken tick all now k least first spare out room
    → new ≡ slot_at tick (get_or now k s) → more ≡ out ++ due_at tick (standing ((get_or now k s).due ∷ [])) → room ≡ left + length (due_at tick (standing ((get_or now k s).due ∷ [])))
    → (n : ℕ) → are_from n (new.due ∷ []) ≡ true → less ≡ min least n → AreTaken tick all (set now k new) (k + 1) less first spare more left
taken_next tick least less k spare room left all now s new first out more inside taken is put used n from smaller =
    let here = here_is tick all now k s inside taken.slots in
    let due_here = ap (λ (s : Slot). due_at tick (standing (s.due ∷ []))) here in
    let next = due_more tick all k s inside in
    let old = ap held_in (map_more (slot_at tick) all k s inside) ∙ map-append (λ (s : Slot). s.due) (map (slot_at tick) (take k all)) (slot_at tick (get_or all k s) ∷ []) in
    let own = is ∙ ap (slot_at tick) here in
    let long = ap length next ∙ length-append (due_at tick (standing (held_in (take k all)))) (due_at tick (standing ((get_or all k s).due ∷ []))) in
    record {
      slots = ap (set now k) is ∙ map_over_more (slot_at tick) all now k (get_or now k s) inside taken.slots (own_default now k s);
      out = put ∙ ap (λ l. out ++ l) due_here ∙ ap (λ l. l ++ due_at tick (standing ((get_or all k s).due ∷ []))) taken.out
          ∙ append_assoc first (due_at tick (standing (held_in (take k all)))) (due_at tick (standing ((get_or all k s).due ∷ []))) ∙ ap (λ l. first ++ l) (sym next);
      spare = omega (arith, taken.spare, used, long, ap length due_here);
      least = ap (are_from less) old ∙ from_append less (held_in (map (slot_at tick) (take k all))) ((slot_at tick (get_or all k s)).due ∷ [])
          (from_less less least (held_in (map (slot_at tick) (take k all))) (omega (arith, smaller)) taken.least)
          (from_less less n ((slot_at tick (get_or all k s)).due ∷ []) (omega (arith, smaller)) (sym (ap (λ (s : Slot). are_from n (s.due ∷ [])) own) ∙ from));
    }

-- By parts

due_one_by_one : (tick : ℕ) (s : Slot) (left right : List Slot)
    → due_at tick (standing (held_in (s ∷ (left ++ right)))) ≡ due_at tick (standing (s.due ∷ [])) ++ (due_at tick (standing (held_in left)) ++ due_at tick (standing (held_in right)))
due_one_by_one tick s left right = grind (arith, nat_tests, due_slots tick (s.due ∷ []), map-append, due_slots tick (held_in left) (held_in right))

pub due_parts : (tick : ℕ) (slots : List Slot) (s : Slot) (rest left right : List Slot) → slots ≡ s ∷ rest → rest ≡ left ++ right
    → due_at tick (standing (held_in slots)) ≡ due_at tick (standing (s.due ∷ [])) ++ (due_at tick (standing (held_in left)) ++ due_at tick (standing (held_in right)))
due_parts tick slots s rest left right is parts = ap (λ l. due_at tick (standing (held_in l))) (is ∙ ap (λ l. s ∷ l) parts) ∙ due_one_by_one tick s left right

pub due_long : (tick : ℕ) (slots : List Slot) (s : Slot) (rest left right : List Slot) → slots ≡ s ∷ rest → rest ≡ left ++ right
    → length (due_at tick (standing (held_in slots))) ≡ length (due_at tick (standing (s.due ∷ []))) + (length (due_at tick (standing (held_in left))) + length (due_at tick (standing (held_in right))))
due_long tick slots s rest left right is parts =
    ap length (due_parts tick slots s rest left right is parts) ∙ length-append (due_at tick (standing (s.due ∷ []))) (due_at tick (standing (held_in left)) ++ due_at tick (standing (held_in right)))
    ∙ ap (λ n. length (due_at tick (standing (s.due ∷ []))) + n) (length-append (due_at tick (standing (held_in left))) (due_at tick (standing (held_in right))))

pub standing_parts : (slots : List Slot) (s : Slot) (rest left right : List Slot) → slots ≡ s ∷ rest → rest ≡ left ++ right
    → length (standing (held_in slots)) ≡ length (standing (s.due ∷ [])) + (length (standing (held_in left)) + length (standing (held_in right)))
standing_parts slots s rest left right is parts =
    ap (λ l. length (standing (held_in l))) (is ∙ ap (λ l. s ∷ l) parts)
    ∙ ap length (standing_append (s.due ∷ []) (held_in (left ++ right)) ∙ ap (λ l. standing (s.due ∷ []) ++ standing l) (map-append (λ (s : Slot). s.due) left right)
    ∙ ap (λ l. standing (s.due ∷ []) ++ l) (standing_append (held_in left) (held_in right)))
    ∙ length-append (standing (s.due ∷ [])) (standing (held_in left) ++ standing (held_in right)) ∙ ap (λ n. length (standing (s.due ∷ [])) + n) (length-append (standing (held_in left)) (standing (held_in right)))

-- those of the parts are put in one after the other
pub put_parts : (tick : ℕ) (slots : List Slot) (s : Slot) (rest left right : List Slot) (first one two three : List Sub) → slots ≡ s ∷ rest → rest ≡ left ++ right → one ≡ first ++ due_at tick (standing (s.due ∷ []))
    → two ≡ one ++ due_at tick (standing (held_in left)) → three ≡ two ++ due_at tick (standing (held_in right)) → three ≡ first ++ due_at tick (standing (held_in slots))
put_parts tick slots s rest left right first one two three is parts a b c = grind (arith, nat_tests, append_assoc, append_assoc first, due_parts tick slots s rest left right is parts)

pub from_parts : (least : ℕ) (slot : Option Due) (left right : List Slot) (a b c : ℕ) → least ≤ a → least ≤ b → least ≤ c → are_from a (slot ∷ []) ≡ true → are_from b (held_in left) ≡ true → are_from c (held_in right) ≡ true
    → are_from least (slot ∷ held_in (left ++ right)) ≡ true
from_parts least slot left right a b c ba bb bc fa fb fc =
    ap (λ l. are_from least (slot ∷ l)) (map-append (λ (s : Slot). s.due) left right)
    ∙ from_append least (slot ∷ []) (held_in left ++ held_in right) (from_less least a (slot ∷ []) ba fa)
    (from_append least (held_in left) (held_in right) (from_less least b (held_in left) bb fb) (from_less least c (held_in right) bc fc))

-- none is due before the tick from which on all are
pub skipped_due : (tick soonest : ℕ) (slots : List (Option Due)) → tick < soonest → are_from soonest slots ≡ true → due_at tick (standing slots) ≡ []
unfolding are_from
skipped_due tick soonest slots before from = none_due tick soonest (standing slots) before from

pub skipped_left : (tick soonest : ℕ) (slots : List (Option Due)) → tick < soonest → are_from soonest slots ≡ true → map (left_in tick) slots ≡ slots
unfolding standing are_from
skipped_left tick soonest [] before from = refl
skipped_left tick soonest (None ∷ slots) before from = grind (arith, nat_tests, skipped_left tick soonest slots before from)
skipped_left tick soonest (Some d ∷ slots) before from = grind (arith, nat_tests, both, skipped_left tick soonest slots before)

pub due_empty : (tick : ℕ) (slots : List Slot) → length slots ≡ 0 → due_at tick (standing (held_in slots)) ≡ []
unfolding standing due_at
due_empty tick slots is = ap (λ l. due_at tick (standing (held_in l))) (nil_from_length slots is)

pub from_empty : (least : ℕ) (slots : List Slot) → length slots ≡ 0 → are_from least (held_in slots) ≡ true
unfolding standing are_from
from_empty least slots is = ap (λ l. are_from least (held_in l)) (nil_from_length slots is)

pub left_long : (tick : ℕ) (old new : List Slot) → held_in new ≡ map (left_in tick) (held_in old) → length new ≡ length old
left_long tick old new is = grind (arith, nat_tests, length-map)

pub held_each : (tick : ℕ) (old new : List Slot) → new ≡ map (slot_at tick) old → held_in new ≡ map (left_in tick) (held_in old)
held_each tick old new is = ap held_in is ∙ each old
  where
    each : (slots : List Slot) → held_in (map (slot_at tick) slots) ≡ map (left_in tick) (held_in slots)
    each [] = refl
    each (s ∷ slots) = ap (λ l. left_in tick s.due ∷ l) (each slots)

pub standing_first : (slots : List Slot) (s : Slot) (rest : List Slot) → slots ≡ s ∷ rest → length (standing (s.due ∷ [])) ≤ length (standing (held_in slots))
standing_first slots s rest is = let whole = standing_parts slots s rest [] rest is refl in omega (arith, whole)
