-- The indexes, as what is set changes.
use Rattle.std.proofs.Common.{◌≡◌, ℕ, zero, suc, ◌+◌, ◌<◌, ◌≤◌, Bool, true, false, ◌||◌, Option, Some, None, is_some, List, [], ◌∷◌, ◌++◌, length, map, slice_get, refl, ap, sym, subst, ◌∙◌, arith, cond}
use Rattle.std.specs.List.{list_any, IsDistinct, AllByRecursion}
use Rattle.std.specs.Map.{lookup, keys_of}
use Rattle.std.specs.Option.{option_map, option_map_or}
use Rattle.std.proofs.lemmas.Map.Made.{is_some-lookup}
use Rattle.std.proofs.lemmas.Map.Entries.{length-keys_of}
use Rattle.std.proofs.lemmas.Bool.Decides.{nat_tests}
use Rattle.vz_ids.specs.declared.SurfaceId.{SurfaceId}
use Rattle.vz_ids.specs.Ids.{same_surface, group_of}
use Rattle.vz_ids.specs.declared.GroupKey.{GroupKey}
use Rattle.vz_rules.specs.Reach.{names}
use Rattle.vz_frame.specs.Frame.{has_repeat}
use Rattle.vz_refs.specs.declared.sets.Nth.{Nth}
use Rattle.vz_refs.specs.declared.sets.Place.{Place}
use Rattle.vz_refs.specs.declared.sets.Edge.{Edge}
use Rattle.vz_refs.specs.Referring.{Ranged, is_set, ranges_of, removing, is_named_by, is_named_in}
use Rattle.vz_refs.specs.Indexing.{opening, same_nth, place_of, or_zero, IsIndexed}
use Rattle.vz_rules.proofs.Marking.{fits, stays_once}
use Rattle.vz_rules.proofs.Reached.{from_same, self_same}
use Rattle.vz_refs.proofs.Keeping.{removed_ranges, removed_has}
use Rattle.vz_refs.proofs.Same.{from_nth, from_eqb, named_group}
use Rattle.vz_refs.proofs.Changing.{unset_ranges, some_within, behind, set_behind, ids_behind, set_ids, removed_once, found_there, named_with, Naming, naming}

-- the range that stands at a place of a group names a surface
abbrev pub named_at : (Nth → Option Edge) → (Place → Option Nth) → SurfaceId → Place → Bool
named_at edge ends id p = option_map_or (λ n. option_map_or (λ e. names id e.range) (edge n) false) (ends p) false

module _ (sets : List Ranged) (count : SurfaceId → Option ℕ) (edge : Nth → Option Edge) (ends : Place → Option Nth) (size : GroupKey → Option ℕ) (good : IsIndexed sets count edge ends size) where
  -- How many a surface has

  pub count_some : (id : SurfaceId) (n : ℕ) → cond (is_set sets id) (Some (length (ranges_of sets id))) None ≡ Some n → n ≡ length (ranges_of sets id)
  count_some id n h = grind (arith, nat_tests)

  pub count_none : (id : SurfaceId) → cond (is_set sets id) (Some (length (ranges_of sets id))) None ≡ None → 0 ≡ length (ranges_of sets id)
  count_none id h = grind (arith, nat_tests, unset_ranges sets id)

  -- A surface more, and a surface fewer

  pub opened : (id : SurfaceId) → is_set sets id ≡ false → (count' : SurfaceId → Option ℕ) → ((q : SurfaceId) → count' q ≡ cond (same_surface id q) (Some 0) (count q)) → IsIndexed (opening id sets) count' edge ends size
  unfolding opening
  opened id none count' counts = subst (λ (l : List Ranged). IsIndexed l count' edge ends size) (sym (ap (λ t. cond t sets (sets ++ record { id = id; ranges = [] } ∷ [])) none)) (record {
    counted = more_counted;
    ranged = λ q. good.ranged q ∙ ap (λ l. slice_get l q.nth) (sym (same_ranges q.of));
    seated = good.seated;
    once = ap (has_repeat same_surface) (ids_behind sets id []) ∙ still_once;
  })
    where
      same_ranges : (x : SurfaceId) → ranges_of (sets ++ record { id = id; ranges = [] } ∷ []) x ≡ ranges_of sets x
      same_ranges x =
          behind sets id x [] none ∙ elim (same_surface id x) as (λ (t : Bool). same_surface id x ≡ t → cond t [] (ranges_of sets x) ≡ ranges_of sets x) [
            | true ↦ λ e. sym (ap (ranges_of sets) (sym (from_same id x e)) ∙ unset_ranges sets id none)
            | false ↦ λ e. refl
          ] refl

      more_counted : (q : SurfaceId) → count' q ≡ cond (is_set (sets ++ record { id = id; ranges = [] } ∷ []) q) (Some (length (ranges_of (sets ++ record { id = id; ranges = [] } ∷ []) q))) None
      more_counted q =
          counts q
          ∙ elim (same_surface id q) as (λ (t : Bool). same_surface id q ≡ t → cond t (Some 0) (count q) ≡ cond (t || is_set sets q) (Some (length (ranges_of sets q))) None) [
            | true ↦ λ e. ap (λ n. Some n) (sym (ap length (ap (ranges_of sets) (sym (from_same id q e)) ∙ unset_ranges sets id none)))
            | false ↦ λ e. good.counted q
          ] refl
          ∙ sym (λ i. cond (set_behind sets id q [] i) (Some (length (same_ranges q i))) None)

      still_once : has_repeat same_surface (map (λ s. s.id) sets ++ id ∷ []) ≡ false
      still_once =
          sym (ap (λ t. has_repeat same_surface (cond t (map (λ (s : Ranged). s.id) sets) (map (λ s. s.id) sets ++ id ∷ []))) (sym (set_ids sets id) ∙ none))
          ∙ stays_once same_surface from_same self_same (id ∷ []) (map (λ s. s.id) sets) good.once

  pub forgotten : (id : SurfaceId) → ranges_of sets id ≡ [] → (count' : SurfaceId → Option ℕ) → ((q : SurfaceId) → count' q ≡ cond (same_surface id q) None (count q)) → IsIndexed (removing id sets) count' edge ends size
  forgotten id empty count' counts = grind (arith, nat_tests, removed_once sets id good.once, removed_ranges sets id, from_same id, removed_has sets id)

  -- each range of a surface is in the index
  pub edge_there : (id : SurfaceId) (k : ℕ) → k < length (ranges_of sets id) → is_some (edge (record { of = id; nth = k })) ≡ true
  edge_there id k low = grind (arith, nat_tests, some_within (ranges_of sets id) k low)

  -- a surface is set where the index knows it
  pub counts_set : (id : SurfaceId) → is_some (count id) ≡ is_set sets id
  counts_set id = grind (arith, nat_tests)

  -- What names a surface

  abbrev names_at : SurfaceId → Place → Bool
  names_at id p = named_at edge ends id p

  pub names_found : (id : SurfaceId) (p : Place) → names_at id p ≡ true → is_named_in sets id ≡ true
  unfolding is_named_by
  names_found id p h = by_end (ends p) refl h
    where
      by_edge : (n : Nth) (o : Option Edge) → edge n ≡ o → option_map_or (λ (e : Edge). names id e.range) o false ≡ true → is_named_in sets id ≡ true
      by_edge n None f h = absurd (cc)
      by_edge n (Some e) f h =
          named_with sets n.of id (found_there (names id) (ranges_of sets n.of) n.nth e.range (sym (good.ranged n) ∙ ap (option_map (λ (e : Edge). e.range)) f) h)

      by_end : (o : Option Nth) → ends p ≡ o → option_map_or (λ (n : Nth). option_map_or (λ (e : Edge). names id e.range) (edge n) false) o false ≡ true → is_named_in sets id ≡ true
      by_end None f h = absurd (cc)
      by_end (Some n) f h = by_edge n (edge n) refl h

  pub names_nowhere : (id : SurfaceId) → ((k : ℕ) → k < or_zero (size (group_of id)) → names_at id (record { group = group_of id; at = k }) ≡ false) → is_named_in sets id ≡ false
  names_nowhere id none =
      elim (is_named_in sets id) as (λ (t : Bool). is_named_in sets id ≡ t → t ≡ false) [ true ↦ λ h. contrary (naming sets id good.once h) | false ↦ λ h. refl ] refl
    where
      with_edge : (w : Naming sets id) (o : Option Edge) → edge (record { of = w.of; nth = w.nth }) ≡ o → option_map (λ (e : Edge). e.range) o ≡ Some w.range → true ≡ false
      with_edge w None f h = absurd (cc)
      with_edge w (Some e) f h =
          let is : e.range ≡ w.range = cc in
          let placed = good.seated.placed (record { of = w.of; nth = w.nth }) e f in
          let named : names id e.range ≡ true = ap (names id) is ∙ w.named in
          let group = named_group id e.range named in
          let low : e.at < or_zero (size (group_of id)) = subst (λ (h : GroupKey). e.at < or_zero (size h)) group placed.1 in
          let here : place_of e ≡ record { group = group_of id; at = e.at } = λ i. record { group = group i; at = e.at } in
          sym (ap (names_at id) (sym here) ∙ ap (λ o. option_map_or (λ (n : Nth). option_map_or (λ (e : Edge). names id e.range) (edge n) false) o false) placed.0 ∙ ap (λ o. option_map_or (λ (e : Edge). names id e.range) o false) f ∙ named) ∙ none e.at low

      contrary : Naming sets id → true ≡ false
      contrary w = with_edge w (edge (record { of = w.of; nth = w.nth })) refl (good.ranged (record { of = w.of; nth = w.nth }) ∙ w.there)

-- nothing is set, and the indexes are empty
pub none_set : (count : SurfaceId → Option ℕ) (edge : Nth → Option Edge) (ends : Place → Option Nth) (size : GroupKey → Option ℕ)
    → ((q : SurfaceId) → count q ≡ None) → ((q : Nth) → edge q ≡ None) → ((p : Place) → ends p ≡ None) → ((h : GroupKey) → size h ≡ None) → IsIndexed [] count edge ends size
unfolding ranges_of
none_set count edge ends size a b c d = grind (arith, nat_tests)

-- the same indexes
pub kept : (sets : List Ranged) (count count' : SurfaceId → Option ℕ) (edge edge' : Nth → Option Edge) (ends ends' : Place → Option Nth) (size size' : GroupKey → Option ℕ)
    → IsIndexed sets count edge ends size → count ≡ count' → edge ≡ edge' → ends ≡ ends' → size ≡ size' → IsIndexed sets count' edge' ends' size'
kept sets count count' edge edge' ends ends' size size' good a b c d = grind (arith, nat_tests)

-- No more stand in a map than it has entries

module _ {K : Type 0} (same : K → K → Bool) (from : (a b : K) → same a b ≡ true → a ≡ b) (self : (a : K) → same a a ≡ true) (key : ℕ → K) (number : (j k : ℕ) → key j ≡ key k → j ≡ k) where
  abbrev below : ℕ → List K
  below zero = []
  below (suc n) = key n ∷ below n

  below_long : (n : ℕ) → length (below n) ≡ n
  below_long zero = refl
  below_long (suc n) = let rest = below_long n in omega (arith, rest)

  not_below : (n k : ℕ) → n ≤ k → list_any (same (key k)) (below n) ≡ false
  not_below zero k h = refl
  not_below (suc n) k h = grind (arith, nat_tests, not_below n k)

  below_once : (n : ℕ) → has_repeat same (below n) ≡ false
  below_once zero = refl
  below_once (suc n) = let none = not_below n n (omega arith) in let rest = below_once n in rw (none, rest)

  in_below : {X : Type 0} (es : List (K × X)) (n : ℕ) → ((k : ℕ) → k < n → is_some (lookup (same (key k)) es) ≡ true) → (x : K) → list_any (same x) (below n) ≡ true → list_any (same x) (keys_of es) ≡ true
  in_below es zero all x h = absurd (cc)
  in_below es (suc n) all x h = grind (arith, nat_tests, is_some-lookup (same (key n)) es, in_below es n)

  pub no_more : {X : Type 0} (es : List (K × X)) (n : ℕ) → ((k : ℕ) → k < n → is_some (lookup (same (key k)) es) ≡ true) → n ≤ length es
  no_more es n all = grind (arith, nat_tests, fits same from self, below_once n, in_below es n all, below_long n, length-keys_of es)

-- the place of a range that is there changes
pub moved_edge : (edge : Nth → Option Edge) (slot q : Nth) (e : Edge) (at : ℕ) → edge slot ≡ Some e
    → cond (same_nth slot q) (Some (record { range = e.range; at = at })) (edge q) ≡ cond (same_nth slot q) (option_map (λ (e : Edge). record { range = e.range; at = at }) (edge q)) (edge q)
moved_edge edge slot q e at was = grind (arith, nat_tests, from_nth slot q)

-- a map that knows which surfaces are set has as many entries
distinct_once : (ids : List SurfaceId) → IsDistinct same_surface ids → has_repeat same_surface ids ≡ false
unfolding IsDistinct
distinct_once [] d = refl
distinct_once (x ∷ ids) d = no_or _ _ (nowhere ids d.0) (distinct_once ids d.1)
  where
    no_or : (a b : Bool) → a ≡ false → b ≡ false → (a || b) ≡ false
    no_or a b p q = rw (p, q)

    nowhere : (ids : List SurfaceId) → AllByRecursion (λ y. same_surface x y ≡ false) ids → list_any (same_surface x) ids ≡ false
    nowhere [] all = refl
    nowhere (y ∷ ids) all = no_or _ _ all.0 (nowhere ids all.1)

pub same_length : (sets : List Ranged) (es : List (SurfaceId × ℕ)) → has_repeat same_surface (map (λ s. s.id) sets) ≡ false → IsDistinct same_surface (keys_of es)
    → ((q : SurfaceId) → is_some (lookup (same_surface q) es) ≡ is_set sets q) → length es ≡ length sets
same_length sets es once distinct same =
    let both : (q : SurfaceId) → list_any (same_surface q) (keys_of es) ≡ list_any (same_surface q) (map (λ s. s.id) sets) = λ q. sym (is_some-lookup (same_surface q) es) ∙ same q ∙ set_ids sets q in
    let few = fits same_surface from_same self_same (map (λ s. s.id) sets) (keys_of es) once (λ q h. both q ∙ h) in
    let many = fits same_surface from_same self_same (keys_of es) (map (λ s. s.id) sets) (distinct_once (keys_of es) distinct) (λ q h. sym (both q) ∙ h) in
    omega (arith, few, many, length-keys_of es, ids_length sets)
  where
    ids_length : (sets : List Ranged) → length (map (λ (s : Ranged). s.id) sets) ≡ length sets
    ids_length [] = refl
    ids_length (s ∷ sets) = let rest = ids_length sets in omega (arith, rest)

pub one_more_below : (p : ℕ → Bool) (n : ℕ) → ((k : ℕ) → k < n → p k ≡ false) → p n ≡ false → (k : ℕ) → k < n + 1 → p k ≡ false
one_more_below p n before here k low = grind (arith, nat_tests, from_eqb k n)
