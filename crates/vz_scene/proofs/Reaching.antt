-- One surface more among the newest of some.
use Rattle.std.proofs.Common.{◌≡◌, Bool, true, false, ◌||◌, cond, Option, Some, None, List, [], ◌∷◌, ◌++◌, refl, sym, ap, ◌∙◌, arith}
use Rattle.std.specs.{List.list_any, BTreeMap.BTreeMap, BTreeMap.get, Ordering.is_eq}
use Rattle.std.proofs.{lemmas.List.Folds.list_any-append, lemmas.Bool.or_left as either_true, lemmas.Bool.Decides.nat_tests}
use Rattle.vz_ids.specs.{declared.SurfaceId.SurfaceId, Ids.same_group, Ids.at_least, Ids.group_of, declared.GroupKey.GroupKey}
use Rattle.vz_scene.specs.{Groups.by_group, Reached.is_at_least_in, Reached.reaches}
use Rattle.vz_ids.proofs.Ages.{at_least_trans}
use Rattle.vz_scene.proofs.{Chains.one_key, Showing.clash, Showing.never, Showing.group_from, Ties.group_ties}

or_false : (t : Bool) → t ≡ (t || false)
or_false t = grind (arith, nat_tests)

-- a stronger test before a weaker one
absorbs : (s t : Bool) → (t ≡ true → s ≡ true) → s ≡ (s || t)
absorbs s t h = grind (arith, nat_tests)

-- the surface that stands for a group, where the group is that of another
stands : (groups : BTreeMap GroupKey SurfaceId) (id newest d : SurfaceId) (key : GroupKey) → key ≡ group_of id → Some newest ≡ get by_group groups key → at_least id d ≡ true → get by_group groups (group_of d) ≡ Some newest
stands groups id newest d key is there e = ap (get by_group groups) (sym (one_key id d (group_from id d e).0)) ∙ (ap (get by_group groups) (sym is) ∙ sym there)

-- one that is reached already changes nothing
pub reached_already : (groups : BTreeMap GroupKey SurfaceId) (others : List SurfaceId) (id newest : SurfaceId) (key : GroupKey) → key ≡ group_of id → Some newest ≡ get by_group groups key → at_least newest id ≡ true
    → (d : SurfaceId) → reaches groups others d ≡ (reaches groups others d || at_least id d)
reached_already groups others id newest key is there e d =
    absorbs (reaches groups others d) (at_least id d) (λ f. either_true _ _ (ap (λ o. is_at_least_in o d) (stands groups id newest d key is there f) ∙ at_least_trans newest id d e f))

-- one beside the others
pub reached_beside : (groups : BTreeMap GroupKey SurfaceId) (others more : List SurfaceId) (id : SurfaceId) → more ≡ others ++ id ∷ [] → (d : SurfaceId) → reaches groups more d ≡ (reaches groups others d || at_least id d)
reached_beside groups others more id e d = grind (arith, nat_tests, list_any-append, or_false)

-- one in the place of its group, where it reaches what stood there
pub reached_instead : (old new : BTreeMap GroupKey SurfaceId) (others : List SurfaceId) (id : SurfaceId) (key : GroupKey) → key ≡ group_of id
    → ((q : GroupKey) → get by_group new q ≡ cond (is_eq (by_group key q)) (Some id) (get by_group old q))
    → ((d : SurfaceId) → is_at_least_in (get by_group old key) d ≡ true → at_least id d ≡ true) → (d : SurfaceId) → reaches new others d ≡ (reaches old others d || at_least id d)
reached_instead old new others id key is put covers d = by (same_group id d) refl
  where
    rest : Bool
    rest = list_any (λ (i : SurfaceId). at_least i d) others

    tie : (t : Bool) → same_group id d ≡ t → is_eq (by_group key (group_of d)) ≡ t
    tie t e = ap (λ k. is_eq (by_group k (group_of d))) is ∙ (group_ties id d ∙ e)

    two : (a x r : Bool) → (x ≡ true → a ≡ true) → (a || r) ≡ ((x || r) || a)
    two true true r h = refl
    two true false true h = refl
    two true false false h = refl
    two false true r h = absurd (clash false (h refl) refl)
    two false false true h = refl
    two false false false h = refl

    by : (t : Bool) → same_group id d ≡ t → reaches new others d ≡ (reaches old others d || at_least id d)
    by true e =
        let here : get by_group old (group_of d) ≡ get by_group old key = ap (get by_group old) (sym (is ∙ one_key id d e)) in
        ap (λ o. is_at_least_in o d || rest) (put (group_of d) ∙ ap (λ t. cond t (Some id) (get by_group old (group_of d))) (tie true e))
        ∙ (two (at_least id d) (is_at_least_in (get by_group old key) d) rest (covers d) ∙ ap (λ o. (is_at_least_in o d || rest) || at_least id d) (sym here))
    by false e =
        ap (λ o. is_at_least_in o d || rest) (put (group_of d) ∙ ap (λ t. cond t (Some id) (get by_group old (group_of d))) (tie false e))
        ∙ (or_false (reaches old others d) ∙ ap (λ t. reaches old others d || t) (sym (never (at_least id d) (λ f. clash (same_group id d) (group_from id d f).0 e))))

-- nothing stood there, or what it reaches
pub covers_none : (o : Option SurfaceId) (id : SurfaceId) → None ≡ o → (d : SurfaceId) → is_at_least_in o d ≡ true → at_least id d ≡ true
covers_none o id e d f = absurd (clash (is_at_least_in o d) f (ap (λ o. is_at_least_in o d) (sym e)))

pub covers_older : (o : Option SurfaceId) (id newest : SurfaceId) → Some newest ≡ o → at_least id newest ≡ true → (d : SurfaceId) → is_at_least_in o d ≡ true → at_least id d ≡ true
covers_older o id newest e reach d f = at_least_trans id newest d reach (ap (λ o. is_at_least_in o d) e ∙ f)
