-- What is kept of the slots, the numbers of them, and the map that finds them.
use Rattle.std.proofs.Common.{◌≡◌, ◌≢◌, ◌⊎◌, ℕ, zero, suc, ◌+◌, ◌-◌, ◌≤◌, ◌<◌, Bool, true, false, not, Option, Some, None, is_some, Result, Ok, OnOk, List, [], ◌∷◌, ◌++◌, length, drop, slice_set as set, map, filter, replicate, slice_get, refl, ap, sym, subst, inl, inr, ◌∙◌, arith}
use Rattle.std.proofs.lemmas.List.{append-nil, length-append, length-map, length-set, length-replicate, drop_at, drop_all, drop-append-le}
use Rattle.vz_ids.specs.declared.Sub.{Sub}
use Rattle.vz_ids.specs.Ids.{same_sub}
use Rattle.vz_deadlines.specs.declared.due.Due.{Due}
use Rattle.vz_deadlines.specs.Timing.{waits, without}
use Rattle.vz_deadlines.specs.Slots.{standing, stands_at, are_distinct, AreFound, AreTold, AreKept}
use Rattle.vz_deadlines.proofs.Stands.{both, two_true, standing_append, standing_fits, standing_free}
use Rattle.vz_deadlines.proofs.Found_at.{same_is, same_self, same_back, by_cases, some_is, waits_at, stands_in, apart}
use Rattle.std.proofs.lemmas.Bool.Decides.{nat_tests}
use Rattle.std.proofs.lemmas.Grind.{common_steps}

-- Nothing, and more room

pub kept_none : (place_of : Sub → Option ℕ) (spare : ℕ) → AreKept [] 0 0 place_of spare
unfolding standing are_distinct
kept_none place_of spare = record { found = λ place d at. absurd (cc); distinct = refl; within = omega arith; free = refl; waiting = refl; room = omega arith }

-- More slots

get_front : (xs ys : List (Option Due)) (place : ℕ) (d : Due) → ((n : ℕ) → slice_get ys n ≡ Some (Some d) → n < 0) → slice_get (xs ++ ys) place ≡ Some (Some d) → slice_get xs place ≡ Some (Some d)
get_front [] ys place d none at = absurd (omega (arith, none place at))
get_front (x ∷ xs) ys zero d none at = at
get_front (x ∷ xs) ys (suc place) d none at = get_front xs ys place d none at

none_free : (k n : ℕ) (d : Due) → slice_get (replicate k None) n ≡ Some (Some d) → n < 0
none_free zero n d at = absurd (cc)
none_free (suc k) zero d at = let no_way : None ≡ Some d = some_is None (Some d) at in absurd (cc)
none_free (suc k) (suc n) d at = absurd (omega (arith, none_free k n d at))

standing_grown : (slots : List (Option Due)) (more : ℕ) → standing (slots ++ replicate more None) ≡ standing slots
standing_grown slots more = standing_append slots (replicate more None) ∙ ap (λ l. standing slots ++ l) (standing_free more) ∙ append-nil (standing slots)

pub kept_grown : (slots new : List (Option Due)) (used count spare room more : ℕ) (place_of place_of' : Sub → Option ℕ) → AreKept slots used count place_of spare → ((t : Sub) → place_of' t ≡ place_of t)
    → new ≡ slots ++ replicate more None → (length slots - used) + more ≤ room → AreKept new used count place_of' room
kept_grown slots new used count spare room more place_of place_of' kept same is enough = grind (arith, nat_tests, length-append, length-replicate, standing_grown, get_front, none_free, drop-append-le)

pub grown_list : (slots new : List (Option Due)) (more : ℕ) → new ≡ slots ++ replicate more None → standing new ≡ standing slots
grown_list slots new more is = ap standing is ∙ standing_grown slots more

-- Those that stand close up

standing_all : (list : List Due) → standing (map Some list) ≡ list
unfolding standing
standing_all [] = refl
standing_all (d ∷ list) = ap (λ l. d ∷ l) (standing_all list)

pub closed_list : (slots new : List (Option Due)) (free : ℕ) → new ≡ map Some (standing slots) ++ replicate free None → standing new ≡ standing slots
closed_list slots new free is = ap standing is ∙ standing_grown (map Some (standing slots)) free ∙ standing_all (standing slots)

pub closed_told : (slots new : List (Option Due)) (free used count spare : ℕ) (place_of place_of' : Sub → Option ℕ) → AreKept slots used count place_of spare → ((t : Sub) → place_of' t ≡ place_of t)
    → new ≡ map Some (standing slots) ++ replicate free None → AreTold place_of' new
closed_told slots new free used count spare place_of place_of' kept same is place d at =
    let there = stands_in slots d.sub (ap (λ l. waits l d.sub) (sym (closed_list slots new free is)) ∙ waits_at new place d d.sub at (same_self d.sub)) in
    ap is_some (same d.sub ∙ ap place_of (sym (same_is there.1.sub d.sub there.3)) ∙ kept.found there.0 there.1 there.2)

pub closed_distinct : (slots new : List (Option Due)) (free : ℕ) → new ≡ map Some (standing slots) ++ replicate free None → are_distinct (standing slots) ≡ true → are_distinct (standing new) ≡ true
closed_distinct slots new free is distinct = ap are_distinct (closed_list slots new free is) ∙ distinct

pub closed_long : (slots new : List (Option Due)) → new ≡ map Some (standing slots) ++ replicate (length slots - length (standing slots)) None → length new ≡ length slots
closed_long slots new is = grind (arith, nat_tests, length-append, length-map, length-replicate, standing_fits)

pub kept_closed : (slots new : List (Option Due)) (used count spare room : ℕ) (place_of place_of' : Sub → Option ℕ) → AreKept slots used count place_of spare
    → new ≡ map Some (standing slots) ++ replicate (length slots - length (standing slots)) None → AreFound place_of' new → length slots - count ≤ room → AreKept new count count place_of' room
kept_closed slots new used count spare room place_of place_of' kept is found enough = grind (arith, nat_tests, closed_list, closed_long, standing_fits, drop_at, length-map, standing_free)

-- One more stands

one_on : (n : ℕ) → suc n + 1 ≡ suc (n + 1)
one_on n = omega arith

pub standing_put : (slots : List (Option Due)) (used : ℕ) (d : Due) → used < length slots → standing (drop used slots) ≡ [] → standing (set slots used (Some d)) ≡ standing slots ++ d ∷ []
unfolding standing
standing_put [] used d inside free = absurd (omega (arith, inside))
standing_put (None ∷ slots) zero d inside free = ap (λ l. d ∷ l) free ∙ ap (λ l. l ++ d ∷ []) (sym free)
standing_put (Some e ∷ slots) zero d inside free = absurd (cc)
standing_put (None ∷ slots) (suc used) d inside free = standing_put slots used d (omega (arith, inside)) free
standing_put (Some e ∷ slots) (suc used) d inside free = ap (λ l. e ∷ l) (standing_put slots used d (omega (arith, inside)) free)

put_free : (slots : List (Option Due)) (used : ℕ) (d : Due) → standing (drop used slots) ≡ [] → standing (drop (used + 1) (set slots used (Some d))) ≡ []
unfolding standing
put_free [] used d free = ap standing (drop_all (used + 1) [] (omega arith))
put_free (None ∷ slots) zero d free = free
put_free (Some e ∷ slots) zero d free = absurd (cc)
put_free (o ∷ slots) (suc used) d free = ap (λ n. standing (drop n (o ∷ set slots used (Some d)))) (one_on used) ∙ put_free slots used d free

distinct_put : (list : List Due) (d : Due) → are_distinct list ≡ true → waits list d.sub ≡ false → are_distinct (list ++ d ∷ []) ≡ true
unfolding are_distinct waits
distinct_put [] d distinct new = refl
distinct_put (e ∷ list) d distinct new = grind (arith, nat_tests, common_steps, both (not (waits list e.sub)) (are_distinct list) distinct, two_true, same_back e.sub d.sub, distinct_put list d)

get_put : (slots : List (Option Due)) (used place : ℕ) (o : Option Due) (d : Due) → slice_get (set slots used o) place ≡ Some (Some d) → ((place ≡ used) × (o ≡ Some d)) ⊎ ((slice_get slots place ≡ Some (Some d)) × (place ≢ used))
get_put [] used place o d at = absurd (cc)
get_put (x ∷ slots) zero zero o d at = inl (refl, some_is o (Some d) at)
get_put (x ∷ slots) zero (suc place) o d at = inr (at, λ e. absurd (omega (arith, e)))
get_put (x ∷ slots) (suc used) zero o d at = inr (at, λ e. absurd (omega (arith, e)))
get_put (x ∷ slots) (suc used) (suc place) o d at = grind (arith, nat_tests, get_put slots used place o d at)

pub kept_put : (slots new : List (Option Due)) (used count spare room : ℕ) (place_of place_of' : Sub → Option ℕ) (d : Due) → AreKept slots used count place_of spare → used < length slots → waits (standing slots) d.sub ≡ false
    → new ≡ set slots used (Some d) → place_of' d.sub ≡ Some used → ((t : Sub) → same_sub d.sub t ≡ false → place_of' t ≡ place_of t) → spare ≤ room + 1 → AreKept new (used + 1) (count + 1) place_of' room
kept_put slots new used count spare room place_of place_of' d kept inside absent is own others enough =
    let list = ap standing is ∙ standing_put slots used d inside kept.free in
    let long = ap length is ∙ length-set slots used (Some d) in
    let more = ap length list ∙ length-append (standing slots) (d ∷ []) in
    record {
      found = λ place e at. elim (get_put slots used place (Some d) e (ap (λ l. slice_get l place) (sym is) ∙ at)) [
        | inl here ↦ ap (λ (x : Due). place_of' x.sub) (sym (some_is d e here.1)) ∙ own ∙ ap Some (sym here.0)
        | inr there ↦ others e.sub (apart_from e place there.0) ∙ kept.found place e there.0
      ];
      distinct = ap are_distinct list ∙ distinct_put (standing slots) d kept.distinct absent;
      within = omega (arith, long, inside);
      free = ap (λ l. standing (drop (used + 1) l)) is ∙ put_free slots used d kept.free;
      waiting = omega (arith, more, kept.waiting);
      room = omega (arith, long, kept.room, enough);
    }
  where
    apart_from : (e : Due) (place : ℕ) → slice_get slots place ≡ Some (Some e) → same_sub d.sub e.sub ≡ false
    apart_from e place at =
        elim (by_cases (same_sub d.sub e.sub)) [
          | inl same ↦ let no_way : true ≡ false = sym (waits_at slots place e d.sub at (ap (λ s. same_sub e.sub s) (same_is d.sub e.sub same) ∙ same_self e.sub)) ∙ absent in absurd (cc)
          | inr other ↦ other
        ]

pub put_list : (slots new : List (Option Due)) (used count spare : ℕ) (place_of : Sub → Option ℕ) (d : Due) → AreKept slots used count place_of spare → used < length slots → new ≡ set slots used (Some d) → standing new ≡ standing slots ++ d ∷ []
put_list slots new used count spare place_of d kept inside is = ap standing is ∙ standing_put slots used d inside kept.free

-- One stands no longer

freed_free : (slots : List (Option Due)) (used place : ℕ) → standing (drop used slots) ≡ [] → standing (drop used (set slots place None)) ≡ []
unfolding standing
freed_free [] used place free = free
freed_free (None ∷ slots) zero zero free = free
freed_free (Some e ∷ slots) zero place free = absurd (cc)
freed_free (None ∷ slots) zero (suc place) free = freed_free slots zero place free
freed_free (o ∷ slots) (suc used) zero free = free
freed_free (o ∷ slots) (suc used) (suc place) free = freed_free slots used place free

pub without_none : (list : List Due) (s : Sub) → waits list s ≡ false → without s list ≡ list
unfolding waits without
without_none [] s absent = refl
without_none (d ∷ list) s absent = grind (arith, nat_tests, without_none list s)

freed_list : (slots : List (Option Due)) (place : ℕ) (d : Due) (s : Sub) → are_distinct (standing slots) ≡ true → slice_get slots place ≡ Some (Some d) → same_sub d.sub s ≡ true → standing (set slots place None) ≡ without s (standing slots)
unfolding standing without are_distinct
freed_list [] place d s distinct at same = absurd (cc)
freed_list (None ∷ slots) zero d s distinct at same = let no_way : None ≡ Some d = some_is None (Some d) at in absurd (cc)
freed_list (None ∷ slots) (suc place) d s distinct at same = freed_list slots place d s distinct at same
freed_list (Some e ∷ slots) zero d s distinct at same = grind (arith, nat_tests, some_is, both, same_is, without_none)
freed_list (Some e ∷ slots) (suc place) d s distinct at same = grind (arith, nat_tests, both, by_cases, freed_list slots place d s, waits_at, same_is)

freed_count : (slots : List (Option Due)) (place : ℕ) (d : Due) → slice_get slots place ≡ Some (Some d) → length (standing (set slots place None)) + 1 ≡ length (standing slots)
unfolding standing
freed_count [] place d at = absurd (cc)
freed_count (None ∷ slots) zero d at = let no_way : None ≡ Some d = some_is None (Some d) at in absurd (cc)
freed_count (Some e ∷ slots) zero d at = omega arith
freed_count (None ∷ slots) (suc place) d at = freed_count slots place d at
freed_count (Some e ∷ slots) (suc place) d at = let rest = freed_count slots place d at in omega (arith, rest)

-- where a submission stands
pub stands_there : (slots : List (Option Due)) (place : ℕ) (s : Sub) → stands_at slots place s ≡ true → (d : Due) × (slice_get slots place ≡ Some (Some d)) × (same_sub d.sub s ≡ true)
stands_there [] place s h = absurd (cc)
stands_there (None ∷ slots) zero s h = absurd (cc)
stands_there (Some d ∷ slots) zero s h = (d, refl, h)
stands_there (o ∷ slots) (suc place) s h = stands_there slots place s h

fewer : (p : Due → Bool) (list : List Due) (s : Sub) → not (waits list s) ≡ true → not (waits (filter p list) s) ≡ true
unfolding waits
fewer p [] s h = refl
fewer p (d ∷ list) s h = grind (arith, nat_tests, fewer p list s)

pub distinct_filter : (p : Due → Bool) (list : List Due) → are_distinct list ≡ true → are_distinct (filter p list) ≡ true
unfolding are_distinct
distinct_filter p [] h = refl
distinct_filter p (d ∷ list) h = grind (arith, nat_tests, both, two_true, fewer, distinct_filter p list)

distinct_without : (list : List Due) (s : Sub) → are_distinct list ≡ true → are_distinct (without s list) ≡ true
unfolding without
distinct_without list s h = distinct_filter (λ d. not (same_sub d.sub s)) list h

pub kept_freed : (slots new : List (Option Due)) (used count spare room place : ℕ) (place_of place_of' : Sub → Option ℕ) (s : Sub) → AreKept slots used count place_of spare → stands_at slots place s ≡ true → new ≡ set slots place None
    → ((t : Sub) → same_sub s t ≡ false → place_of' t ≡ place_of t) → spare ≤ room → AreKept new used (count - 1) place_of' room
kept_freed slots new used count spare room place place_of place_of' s kept stands is others enough =
    let there = stands_there slots place s stands in
    let list = ap standing is ∙ freed_list slots place there.0 s kept.distinct there.1 there.2 in
    let long = ap length is ∙ length-set slots place None in
    let fewer = ap (λ l. length (standing l)) is in
    let one = freed_count slots place there.0 there.1 in
    record {
      found = λ at d h. elim (get_put slots place at None d (ap (λ l. slice_get l at) (sym is) ∙ h)) [
        | inl here ↦ let no_way : None ≡ Some d = here.1 in absurd (cc)
        | inr other ↦ others d.sub (apart_from there d at other.0 other.1) ∙ kept.found at d other.0
      ];
      distinct = ap are_distinct list ∙ distinct_without (standing slots) s kept.distinct;
      within = omega (arith, long, kept.within);
      free = ap (λ l. standing (drop used l)) is ∙ freed_free slots used place kept.free;
      waiting = omega (arith, fewer, one, kept.waiting);
      room = omega (arith, long, kept.room, enough);
    }
  where
    apart_from : ((d : Due) × (slice_get slots place ≡ Some (Some d)) × (same_sub d.sub s ≡ true)) → (d : Due) (at : ℕ) → slice_get slots at ≡ Some (Some d) → at ≢ place → same_sub s d.sub ≡ false
    apart_from there d at h other =
        elim (by_cases (same_sub s d.sub)) [
          | inl same ↦ absurd (other (sym (apart slots place at there.0 d kept.distinct there.1 h (ap (λ t. same_sub t d.sub) (same_is there.0.sub s there.2) ∙ same))))
          | inr h ↦ h
        ]

pub freed_is : (slots new : List (Option Due)) (used count spare place : ℕ) (place_of : Sub → Option ℕ) (s : Sub) → AreKept slots used count place_of spare → stands_at slots place s ≡ true → new ≡ set slots place None → standing new ≡ without s (standing slots)
freed_is slots new used count spare place place_of s kept stands is = let there = stands_there slots place s stands in ap standing is ∙ freed_list slots place there.0 s kept.distinct there.1 there.2

stands_here : (slots : List (Option Due)) (place : ℕ) (d : Due) (s : Sub) → slice_get slots place ≡ Some (Some d) → same_sub d.sub s ≡ true → stands_at slots place s ≡ true
stands_here slots place d s at same = ap (λ (o : Option (Option Due)). elim o [ Some slot ↦ elim slot [ Some d ↦ same_sub d.sub s | None ↦ not true ] | None ↦ not true ]) at ∙ same

-- one that is not found does not wait
pub absent_waits : (slots : List (Option Due)) (used count spare : ℕ) (place_of : Sub → Option ℕ) (s : Sub) → AreKept slots used count place_of spare → ((place : ℕ) → place_of s ≡ Some place → stands_at slots place s ≡ false) → waits (standing slots) s ≡ false
absent_waits slots used count spare place_of s kept none =
    elim (by_cases (waits (standing slots) s)) [
      | inl h ↦ let there = stands_in slots s h in
          let told = ap place_of (sym (same_is there.1.sub s there.3)) ∙ kept.found there.0 there.1 there.2 in
          let no_way : false ≡ true = sym (none there.0 told) ∙ stands_here slots there.0 there.1 s there.2 there.3 in absurd (cc)
      | inr h ↦ h
    ]

-- where a map tells a slot in which another one stands, the one that is asked for does not wait

pub kept_lost : (slots : List (Option Due)) (used count spare room place : ℕ) (place_of place_of' : Sub → Option ℕ) (s : Sub) → AreKept slots used count place_of spare → place_of s ≡ Some place → stands_at slots place s ≡ false
    → ((t : Sub) → same_sub s t ≡ false → place_of' t ≡ place_of t) → spare ≤ room → AreKept slots used count place_of' room
kept_lost slots used count spare room place place_of place_of' s kept told other others enough = grind (arith, nat_tests, by_cases, same_is s, some_is, stands_here slots place, same_self s)

pub lost_waits : (slots : List (Option Due)) (used count spare place : ℕ) (place_of : Sub → Option ℕ) (s : Sub) → AreKept slots used count place_of spare → place_of s ≡ Some place → stands_at slots place s ≡ false → waits (standing slots) s ≡ false
lost_waits slots used count spare place place_of s kept told other = grind (arith, nat_tests, absent_waits slots used count spare place_of s kept, some_is)

pub untold_waits : (slots : List (Option Due)) (used count spare : ℕ) (place_of : Sub → Option ℕ) (s : Sub) → AreKept slots used count place_of spare → place_of s ≡ None → waits (standing slots) s ≡ false
untold_waits slots used count spare place_of s kept told = grind (arith, nat_tests, absent_waits slots used count spare place_of s kept)

pub freed_some : (slots : List (Option Due)) (used count spare place : ℕ) (place_of : Sub → Option ℕ) (s : Sub) → AreKept slots used count place_of spare → stands_at slots place s ≡ true → 1 ≤ count
freed_some slots used count spare place place_of s kept stands = grind (arith, nat_tests, stands_there slots place s stands, freed_count slots place)

pub on_ok : {A E : Type 0} (r : Result A E) (x : A) (P : Type 0) → r ≡ Ok x → OnOk r P → P
on_ok r x P is h = subst (λ (r : Result _ _). OnOk r P) is h
