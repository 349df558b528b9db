-- Ranges that end what they name, one after the other.
use Rattle.std.proofs.Common.{◌≡◌, ℕ, ◌+◌, ◌≤◌, ◌<◌, Bool, true, false, not, ◌||◌, ◌&&◌, List, [], ◌∷◌, length, take, get_or, filter, refl, ap, sym, ◌∙◌, arith}
use Rattle.std.specs.List.{list_any}
use Rattle.std.proofs.lemmas.List.{take_all}
use Rattle.std.proofs.lemmas.List.Folds.{list_any_more}
use Rattle.vz_ids.specs.declared.SurfaceRange.{SurfaceRange}
use Rattle.vz_rules.specs.Reach.{names}
use Rattle.vz_refs.specs.Referring.{Temporary, is_named_by, unnamed}
use Rattle.std.proofs.lemmas.Bool.Decides.{nat_tests}

filter_twice : (p q : Temporary → Bool) (xs : List Temporary) → filter p (filter q xs) ≡ filter (λ t. q t && p t) xs
filter_twice p q [] = refl
filter_twice p q (x ∷ xs) = grind (arith, nat_tests, filter_twice p q xs)

-- no range names any
pub unnamed_none : (xs : List Temporary) → xs ≡ unnamed [] xs
unfolding unnamed is_named_by
unnamed_none [] = refl
unnamed_none (x ∷ xs) = ap (λ l. x ∷ l) (unnamed_none xs)

-- the next range
pub unnamed_more : (ranges : List SurfaceRange) (k : ℕ) (d : SurfaceRange) (xs : List Temporary) → k < length ranges
    → filter (λ t. not (names t.id (get_or ranges k d))) (unnamed (take k ranges) xs) ≡ unnamed (take (k + 1) ranges) xs
unfolding unnamed is_named_by
unnamed_more ranges k d xs inside =
    filter_twice (λ t. not (names t.id (get_or ranges k d))) (λ t. not (list_any (names t.id) (take k ranges))) xs ∙ (λ i. filter (λ t. one t i) xs)
  where
    neither : (a b : Bool) → (not a && not b) ≡ not (a || b)
    neither true b = refl
    neither false b = refl

    one : (t : Temporary) → (not (list_any (names t.id) (take k ranges)) && not (names t.id (get_or ranges k d))) ≡ not (list_any (names t.id) (take (k + 1) ranges))
    one t = neither (list_any (names t.id) (take k ranges)) (names t.id (get_or ranges k d)) ∙ ap not (sym (list_any_more (names t.id) ranges k d inside))

-- all of them
pub unnamed_all : (ranges : List SurfaceRange) (k : ℕ) (xs : List Temporary) → length ranges ≤ k → unnamed (take k ranges) xs ≡ unnamed ranges xs
unnamed_all ranges k xs over = ap (λ l. unnamed l xs) (take_all k ranges over)
