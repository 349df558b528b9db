-- Slots in which submissions are found.
use Rattle.std.proofs.Common.{◌≡◌, ℕ, zero, suc, ◌+◌, ◌≤◌, ◌<◌, Bool, true, false, not, ◌||◌, Option, Some, None, List, [], ◌∷◌, length, slice_get, refl, ap, sym, inl, inr, ◌∙◌, arith}
use Rattle.std.proofs.lemmas.Bool.Decides.{nat_tests}
use Rattle.std.proofs.lemmas.Option.{slice_get_within}
use Rattle.vz_ids.specs.declared.Sub.{Sub}
use Rattle.vz_ids.specs.Ids.{same_sub}
use Rattle.vz_deadlines.specs.declared.due.Due.{Due}
use Rattle.vz_deadlines.specs.Timing.{waits}
use Rattle.vz_deadlines.specs.Slots.{standing, are_distinct, AreFound, AreTold}
use Rattle.vz_deadlines.proofs.Stands.{both}
use Rattle.std.proofs.lemmas.Bool.{eqb-true as from_eqb}
pub use Rattle.vz_rules.proofs.Kept_rounds.{self_sub as same_self}
pub use Rattle.std.proofs.lemmas.Bool.{cases_Bool as by_cases}
pub use Rattle.std.proofs.lemmas.Option.{same_Some as some_is}

pub same_is : (a b : Sub) → same_sub a b ≡ true → a ≡ b
same_is a b h = grind (arith, nat_tests, both, from_eqb a.client b.client, from_eqb a.ordinal b.ordinal)

pub same_back : (a b : Sub) → same_sub a b ≡ false → same_sub b a ≡ false
same_back a b h = grind (arith, nat_tests, same_is b a, same_self b)

-- One that stands in a slot waits

pub waits_at : (slots : List (Option Due)) (place : ℕ) (d : Due) (s : Sub) → slice_get slots place ≡ Some (Some d) → same_sub d.sub s ≡ true → waits (standing slots) s ≡ true
unfolding standing waits
waits_at [] place d s at same = absurd (cc)
waits_at (None ∷ slots) zero d s at same = absurd (cc)
waits_at (Some e ∷ slots) zero d s at same = grind (arith, nat_tests, some_is e d (some_is (Some e) (Some d) at), some_is (Some e) (Some d) at)
waits_at (None ∷ slots) (suc place) d s at same = waits_at slots place d s at same
waits_at (Some e ∷ slots) (suc place) d s at same = grind (arith, nat_tests, waits_at slots place d s at same)

-- and one that waits stands in a slot
pub stands_in : (slots : List (Option Due)) (s : Sub) → waits (standing slots) s ≡ true → (place : ℕ) × (d : Due) × (slice_get slots place ≡ Some (Some d)) × (same_sub d.sub s ≡ true)
unfolding standing waits
stands_in [] s h = absurd (cc)
stands_in (None ∷ slots) s h = let rest = stands_in slots s h in (suc rest.0, rest.1, rest.2, rest.3)
stands_in (Some e ∷ slots) s h =
    elim (by_cases (same_sub e.sub s)) [
      | inl own ↦ (zero, e, refl, own)
      | inr other ↦ let rest = stands_in slots s (later (same_sub e.sub s) (waits (standing slots) s) other h) in (suc rest.0, rest.1, rest.2, rest.3)
    ]
  where
    later : (a b : Bool) → a ≡ false → (a || b) ≡ true → b ≡ true
    later true b e h = absurd (cc)
    later false b e h = h

-- none stands in two slots
pub apart : (slots : List (Option Due)) (i j : ℕ) (a b : Due) → are_distinct (standing slots) ≡ true → slice_get slots i ≡ Some (Some a) → slice_get slots j ≡ Some (Some b) → same_sub a.sub b.sub ≡ true → i ≡ j
unfolding standing are_distinct
apart [] i j a b distinct at at' same = absurd (cc)
apart (o ∷ slots) zero zero a b distinct at at' same = refl
apart (None ∷ slots) zero (suc j) a b distinct at at' same = absurd (cc)
apart (None ∷ slots) (suc i) zero a b distinct at at' same = absurd (cc)
apart (None ∷ slots) (suc i) (suc j) a b distinct at at' same = ap suc (apart slots i j a b distinct at at' same)
apart (Some e ∷ slots) (suc i) (suc j) a b distinct at at' same =
    ap suc (apart slots i j a b (both (not (waits (standing slots) e.sub)) (are_distinct (standing slots)) distinct).1 at at' same)
apart (Some e ∷ slots) zero (suc j) a b distinct at at' same =
    let here = some_is e a (some_is (Some e) (Some a) at) in
    let twice = waits_at slots j b e.sub at' (ap (λ (x : Due). same_sub b.sub x.sub) here ∙ ap (λ s. same_sub s a.sub) (sym (same_is a.sub b.sub same)) ∙ same_self a.sub) in
    let once = (both (not (waits (standing slots) e.sub)) (are_distinct (standing slots)) distinct).0 in
    let no_way : false ≡ true = sym (ap not twice) ∙ once in absurd (cc)
apart (Some e ∷ slots) (suc i) zero a b distinct at at' same =
    let here = some_is e b (some_is (Some e) (Some b) at') in
    let twice = waits_at slots i a e.sub at (ap (λ (x : Due). same_sub a.sub x.sub) here ∙ same) in
    let once = (both (not (waits (standing slots) e.sub)) (are_distinct (standing slots)) distinct).0 in
    let no_way : false ≡ true = sym (ap not twice) ∙ once in absurd (cc)

-- Numbering

-- the map tells the slots of the first ones, and some slot for each
pub record AreNumbered (place_of : Sub → Option ℕ) (slots : List (Option Due)) (k : ℕ) : Type 0 where
  pub first : (place : ℕ) (d : Due) → place < k → slice_get slots place ≡ Some (Some d) → place_of d.sub ≡ Some place
  pub told : AreTold place_of slots

pub numbered_none : (place_of : Sub → Option ℕ) (slots : List (Option Due)) → AreTold place_of slots → AreNumbered place_of slots 0
numbered_none place_of slots told = record { first = λ place d before at. absurd (omega (arith, before)); told = told }

pub numbered_next : (old new : Sub → Option ℕ) (slots : List (Option Due)) (k : ℕ) (d : Due) → are_distinct (standing slots) ≡ true → AreNumbered old slots k → slice_get slots k ≡ Some (Some d)
    → new d.sub ≡ Some k → ((t : Sub) → same_sub d.sub t ≡ false → new t ≡ old t) → AreNumbered new slots (k + 1)
numbered_next old new slots k d distinct numbered here own others = grind (arith, nat_tests, by_cases, same_is d.sub, apart slots k, some_is, from_eqb, same_self d.sub)

pub numbered_free : (place_of : Sub → Option ℕ) (slots : List (Option Due)) (k : ℕ) → AreNumbered place_of slots k → slice_get slots k ≡ Some None → AreNumbered place_of slots (k + 1)
numbered_free place_of slots k numbered free = grind (arith, nat_tests, by_cases, some_is, from_eqb)

pub numbered_all : (place_of : Sub → Option ℕ) (slots : List (Option Due)) (k : ℕ) → length slots ≤ k → AreNumbered place_of slots k → AreFound place_of slots
numbered_all place_of slots k over numbered place d at = numbered.first place d (omega (arith, over, slice_get_within slots place (Some d) at)) at
