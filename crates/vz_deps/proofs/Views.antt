-- What contracts see of the blocked submissions.
use Rattle.std.proofs.Common.{◌≡◌, ℕ, Bool, true, false, not, nat_eq, Option, Some, None, zero, suc, List, [], ◌∷◌, ◌++◌, length, map, filter, refl, ap, inl, inr, ◌∙◌, arith, option_to_list}
use Rattle.std.proofs.lemmas.Bool.Decides.{nat_tests}
use Rattle.std.specs.List.{list_all}
use Rattle.std.specs.Map.{lookup}
use Rattle.std.specs.Option.{option_map}
use Rattle.std.proofs.lemmas.List.Elements.{filter-append}
use Rattle.vz_ids.specs.declared.Sub.{Sub}
use Rattle.vz_ids.specs.declared.SurfaceId.{SurfaceId}
use Rattle.vz_ids.specs.Ids.{same_sub}
use Rattle.vz_deps.specs.declared.bunches.Lack.{Lack}
use Rattle.vz_deps.specs.declared.lacks.Count.{Count}
use Rattle.vz_deps.specs.declared.lacks.Lacks.{Lacks}
use Rattle.vz_deps.specs.Tracking.{Blocked, is_blocked, without, freed, still, listed}
use Rattle.vz_deps.specs.Lacking.{on_in, count_in, lacks_of, all_of, unmet_in, is_nothing, IsCleared, Meets, IsRid}
use Rattle.vz_deps.specs.Ordered.{is_rising}
use Rattle.vz_deps.proofs.Same.{both, either, pick_yes, pick_no, none_some, from_number}
use Rattle.vz_deps.proofs.Orders.{above, none_below, own}
use Rattle.vz_deps.proofs.Released.{own_sub}

pub listed_length : (unmet : ℕ → List SurfaceId) (subs : List (ℕ × Sub)) → length (listed unmet subs) ≡ length subs
unfolding listed
listed_length unmet [] = refl
listed_length unmet (e ∷ subs) = let rest = listed_length unmet subs in omega (arith, rest)

-- where nothing is blocked, nothing is freed and nothing stays

pub none_freed : (met : SurfaceId → Bool) (list : List Blocked) (out : List Sub) → length list ≡ 0 → out ≡ out ++ freed met list
unfolding freed
none_freed met [] out e = by out
  where
    by : (xs : List Sub) → xs ≡ xs ++ []
    by [] = refl
    by (x ∷ xs) = ap (λ l. x ∷ l) (by xs)
none_freed met (b ∷ list) out e = absurd (omega (arith, e))

pub none_still : (met : SurfaceId → Bool) (list : List Blocked) → length list ≡ 0 → list ≡ still met list
unfolding still
none_still met [] e = refl
none_still met (b ∷ list) e = absurd (omega (arith, e))

pub listed_more : (unmet : ℕ → List SurfaceId) (subs : List (ℕ × Sub)) (o : ℕ) (s : Sub) → listed unmet (subs ++ (o, s) ∷ []) ≡ listed unmet subs ++ record { sub = s; unmet = unmet o } ∷ []
unfolding listed
listed_more unmet [] o s = refl
listed_more unmet (e ∷ subs) o s = ap (λ l. record { sub = e.1; unmet = unmet e.0 } ∷ l) (listed_more unmet subs o s)

pub listed_same : (f g : ℕ → List SurfaceId) (subs : List (ℕ × Sub)) → is_rising subs ≡ true → ((o : ℕ) (t : Sub) → lookup (nat_eq o) subs ≡ Some t → f o ≡ g o) → listed f subs ≡ listed g subs
unfolding listed is_rising
listed_same f g [] h same = refl
listed_same f g (e ∷ subs) h same =
    let parts = both (above e.0 subs) (is_rising subs) h in
    let first : f e.0 ≡ g e.0 = same e.0 e.1 (own e subs) in
    let rest = listed_same f g subs parts.1 (λ o t found.
    elim (either (nat_eq o e.0)) [
      | inl k ↦ let no_way = none_some t (lookup (nat_eq o) subs) (ap (λ n. lookup (nat_eq n) subs) (from_number o e.0 k) ∙ none_below e.0 subs parts.0) found in absurd (cc)
      | inr k ↦ same o t (pick_no _ _ _ k ∙ found)
    ]) in
    λ i. record { sub = e.1; unmet = first i } ∷ rest i

pub listed_without : (unmet : ℕ → List SurfaceId) (s : Sub) (subs : List (ℕ × Sub)) → listed unmet (filter (λ e. not (same_sub e.1 s)) subs) ≡ without s (listed unmet subs)
unfolding listed without
listed_without unmet s [] = refl
listed_without unmet s (e ∷ subs) = grind (arith, nat_tests, listed_without unmet s subs)

-- one that is found is blocked
pub found_blocked : (unmet : ℕ → List SurfaceId) (subs : List (ℕ × Sub)) (o : ℕ) (s : Sub) → lookup (nat_eq o) subs ≡ Some s → is_blocked (listed unmet subs) s ≡ true
unfolding listed is_blocked
found_blocked unmet [] o s h = absurd (cc)
found_blocked unmet (e ∷ subs) o s h = grind (arith, nat_tests, either (nat_eq o e.0), pick_yes, own_sub s, found_blocked unmet subs o s, pick_no)

-- one that is taken out is not blocked
pub gone_sub : (s : Sub) (list : List Blocked) → is_blocked (without s list) s ≡ false
unfolding is_blocked without
gone_sub s [] = refl
gone_sub s (b ∷ list) = grind (arith, nat_tests, gone_sub s list)

-- What is left where something is told

same_all : (x y : Option Count) → option_map (λ (c : Count). c.all) x ≡ option_map (λ (c : Count). c.all) y → all_of x ≡ all_of y
same_all None None h = refl
same_all None (Some y) h = absurd (cc)
same_all (Some x) None h = absurd (cc)
same_all (Some x) (Some y) h = grind (arith, nat_tests)

module _ (met : SurfaceId → Bool) where
  one_left : (old new : Option SurfaceId) → IsCleared met old new → ((d : SurfaceId) → new ≡ Some d → met d ≡ false) → option_to_list new ≡ filter (λ d. not (met d)) (option_to_list old)
  one_left old new (inl e) rid = grind (arith, nat_tests)
  one_left old new (inr e) rid = grind (arith, nat_tests)

  lacks_left : (f g : Lack → Option SurfaceId) → ((x : Lack) → option_to_list (g x) ≡ filter (λ d. not (met d)) (option_to_list (f x))) → (o n : ℕ) → lacks_of g o n ≡ filter (λ d. not (met d)) (lacks_of f o n)
  unfolding lacks_of
  lacks_left f g one o zero = refl
  lacks_left f g one o (suc n) = grind (arith, nat_tests, lacks_left f g one o n, filter-append)

  pub told_unmet : (a b : Lacks) → Meets met a b → IsRid met b → (o : ℕ) → unmet_in b o ≡ filter (λ d. not (met d)) (unmet_in a o)
  told_unmet a b meets rid o = grind (arith, nat_tests, same_all (count_in b o) (count_in a o) (meets.all o), lacks_left (on_in a) (on_in b), one_left)

  nothing_left : (xs : List SurfaceId) → is_nothing (filter (λ d. not (met d)) xs) ≡ list_all met xs
  nothing_left [] = refl
  nothing_left (x ∷ xs) = grind (arith, nat_tests, nothing_left xs)

  module _ (was now : ℕ → List SurfaceId) (is : (o : ℕ) → now o ≡ filter (λ d. not (met d)) (was o)) where
    pub freed_is : (subs : List (ℕ × Sub)) → map (λ e. e.1) (filter (λ e. is_nothing (now e.0)) subs) ≡ freed met (listed was subs)
    unfolding listed freed
    freed_is [] = refl
    freed_is (e ∷ subs) = grind (arith, nat_tests, nothing_left (was e.0), freed_is subs)

    pub still_is : (subs : List (ℕ × Sub)) → listed now (filter (λ e. not (is_nothing (now e.0))) subs) ≡ still met (listed was subs)
    unfolding listed still
    still_is [] = refl
    still_is (e ∷ subs) = grind (arith, nat_tests, nothing_left (was e.0), still_is subs)
