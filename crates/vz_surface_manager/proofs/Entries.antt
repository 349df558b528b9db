-- Submissions among the entries of a map, as they are looked up and put in.
use Rattle.std.proofs.Common.{◌≡◌, Bool, true, false, ◌||◌, Option, Some, is_some, List, [], ◌∷◌, ◌++◌, refl, ap, sym, ◌∙◌, cond, arith}
use Rattle.std.proofs.Common.{if◌then◌else◌, map}
use Rattle.std.specs.{List.list_any, Map.lookup}
use Rattle.indexmap.specs.IndexMap.{insert_entry}
use Rattle.vz_ids.specs.{declared.Sub.Sub, Ids.same_sub}
use Rattle.vz_ids.specs.contracts.SubPartialEq.TheImpl as sub_eq
use Rattle.vz_rules.specs.{Closure.adding, World.has_sub}
use Rattle.vz_rules.proofs.Members.{any_map}
use Rattle.vz_surface_manager.specs.{Flown.Flown, Flown.subs_of, Rosters.same_flown}
use Rattle.std.proofs.lemmas.Bool.Decides.{nat_tests}

abbrev pub same_key : Sub → Sub → Bool
same_key = (sub_eq.ghosts).eq

found_step : {A : Type 0} (t : Bool) (x : A) (rest : Option A) → (t || is_some rest) ≡ is_some (cond t (Some x) rest)
found_step t x rest = grind (arith, nat_tests)

-- the names of entries
abbrev pub subs_in : {V : Type 0} → List (Sub × V) → List Sub
subs_in {V = V} xs = map (λ (e : Sub × V). e.0) xs

-- a submission is among the entries
pub looked : {V : Type 0} (xs : List (Sub × V)) (sub : Sub) → has_sub (subs_in xs) sub ≡ is_some (lookup (same_key sub) xs)
looked [] sub = refl
looked (x ∷ xs) sub = grind (arith, nat_tests, looked xs sub, found_step (same_sub sub x.0) x.1)

put_step : {V : Type 0} (t rest : Bool) (x : Sub × V) (sub : Sub) (l : V) (xs new : List (Sub × V)) → (t || rest) ≡ false
    → (rest ≡ false → new ≡ xs ++ (sub, l) ∷ []) → (if t then (x.0, l) ∷ xs else x ∷ new) ≡ (x ∷ xs) ++ (sub, l) ∷ []
put_step t rest x sub l xs new e h = grind (arith, nat_tests)

-- one that is not goes to the end
pub put_last : {V : Type 0} (xs : List (Sub × V)) (sub : Sub) (l : V) → has_sub (subs_in xs) sub ≡ false
    → insert_entry same_key xs sub l ≡ xs ++ (sub, l) ∷ []
put_last [] sub l e = refl
put_last (x ∷ xs) sub l e = grind (arith, nat_tests, put_step (same_sub sub x.0) (has_sub (subs_in xs) sub) x sub l xs, put_last xs sub l)

-- a submission of this name is there
pub named : (xs : List Flown) (f : Flown) → list_any (same_flown f) xs ≡ has_sub (subs_of xs) f.0
named xs f = sym (any_map (λ (g : Flown). g.0) (same_sub f.0) (same_flown f) xs (λ g. refl))

abbrev noted : Bool → List Flown → Flown → List Flown
noted t xs f = if t then xs else xs ++ f ∷ []

-- one that is there is not noted again, and one that is not is
pub noted_again : (xs : List Flown) (f : Flown) → has_sub (subs_of xs) f.0 ≡ true → xs ≡ adding same_flown xs (f ∷ [])
noted_again xs f e = sym (ap (λ t. noted t xs f) (named xs f ∙ e))

pub noted_new : (xs : List Flown) (f : Flown) → has_sub (subs_of xs) f.0 ≡ false → xs ++ f ∷ [] ≡ adding same_flown xs (f ∷ [])
noted_new xs f e = sym (ap (λ t. noted t xs f) (named xs f ∙ e))
