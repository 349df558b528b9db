-- The indexes, where a surface has its last range no more.
use Rattle.std.proofs.Common.{◌≡◌, ℕ, ◌+◌, ◌-◌, ◌==◌, Bool, true, false, Option, Some, None, List, length, take, slice_get, refl, ap, sym, subst, ◌∙◌, arith, cond}
use Rattle.std.specs.Option.{option_map}
use Rattle.vz_ids.specs.declared.SurfaceId.{SurfaceId}
use Rattle.vz_ids.specs.Ids.{same_surface, group_of}
use Rattle.vz_ids.specs.declared.GroupKey.{GroupKey}
use Rattle.vz_rules.proofs.Reached.{from_same}
use Rattle.vz_refs.specs.declared.sets.Nth.{Nth}
use Rattle.vz_refs.specs.declared.sets.Place.{Place}
use Rattle.vz_refs.specs.declared.sets.Edge.{Edge}
use Rattle.vz_refs.specs.Referring.{Ranged, is_set, ranges_of}
use Rattle.vz_refs.specs.Indexing.{changing, but_last, same_nth, same_key, same_place, place_of, or_zero, IsIndexed}
use Rattle.vz_refs.specs.Seated.{IsSeated}
use Rattle.vz_refs.proofs.Seating.{seat_fewer}
use Rattle.vz_refs.proofs.Same.{from_nth, self_nth, from_key, second_not}
use Rattle.vz_refs.proofs.Changing.{changed_set, changed_other, changed_own, changed_ids, set_with_some, get_but_last, get_over, take_long}
use Rattle.std.proofs.lemmas.Bool.Decides.{nat_tests}

module _ (sets : List Ranged) (count : SurfaceId → Option ℕ) (edge : Nth → Option Edge) (ends : Place → Option Nth) (size : GroupKey → Option ℕ) (good : IsIndexed sets count edge ends size) where
  -- A range fewer

  module _ (id : SurfaceId) (n z : ℕ) (gone : Edge) (moved : Nth) (many : n + 1 ≡ length (ranges_of sets id)) (was : edge (record { of = id; nth = n }) ≡ Some gone)
      (big : z + 1 ≡ or_zero (size (group_of gone.range.end))) (last : ends (record { group = group_of gone.range.end; at = z }) ≡ Some moved)
      (count' : SurfaceId → Option ℕ) (counts : (q : SurfaceId) → count' q ≡ cond (same_surface id q) (option_map (λ _. n) (count q)) (count q))
      (edge' : Nth → Option Edge)
      (edges : (q : Nth) → edge' q ≡ cond (same_nth moved q) (option_map (λ e. record { range = e.range; at = gone.at }) (cond (same_nth (record { of = id; nth = n }) q) None (edge q))) (cond (same_nth (record { of = id; nth = n }) q) None (edge q)))
      (ends' : Place → Option Nth)
      (ended : (p : Place) → ends' p ≡ cond (same_place (place_of gone) p) (option_map (λ _. moved) (cond (same_place (record { group = group_of gone.range.end; at = z }) p) None (ends p))) (cond (same_place (record { group = group_of gone.range.end; at = z }) p) None (ends p)))
      (size' : GroupKey → Option ℕ) (sizes : (h : GroupKey) → size' h ≡ cond (same_key (group_of gone.range.end) h) (option_map (λ _. z) (size h)) (size h)) where
    abbrev fewer_sets : List Ranged
    fewer_sets = changing but_last id sets

    abbrev slot : Nth
    slot = record { of = id; nth = n }

    abbrev group : GroupKey
    group = group_of gone.range.end

    abbrev with_at : Edge → Edge
    with_at e = record { range = e.range; at = gone.at }

    less_ranges : ranges_of fewer_sets id ≡ take (length (ranges_of sets id) - 1) (ranges_of sets id)
    less_ranges = changed_own but_last id sets (set_with_some sets id (omega (arith, many)))

    less_long : length (ranges_of fewer_sets id) ≡ n
    less_long = let cut = take_long (ranges_of sets id) (length (ranges_of sets id) - 1) (omega arith) in omega (arith, cut, many, ap length less_ranges)

    fewer_counted : (q : SurfaceId) → count' q ≡ cond (is_set fewer_sets q) (Some (length (ranges_of fewer_sets q))) None
    fewer_counted q = grind (arith, nat_tests, from_same, changed_other, changed_set, set_with_some, less_long)

    same_range : (t : Bool) (o : Option Edge) → option_map (λ (e : Edge). e.range) (cond t (option_map with_at o) o) ≡ option_map (λ (e : Edge). e.range) o
    same_range x0 o = grind (arith, nat_tests)

    fewer_ranged : (q : Nth) → option_map (λ e. e.range) (edge' q) ≡ slice_get (ranges_of fewer_sets q.of) q.nth
    fewer_ranged q =
        ap (option_map (λ e. e.range)) (edges q) ∙ same_range (same_nth moved q) (cond (same_nth slot q) None (edge q))
        ∙ elim (same_nth slot q) as (λ (t : Bool). same_nth slot q ≡ t → option_map (λ (e : Edge). e.range) (cond t None (edge q)) ≡ slice_get (ranges_of fewer_sets q.of) q.nth) [
          | true ↦ λ e. subst (λ (q : Nth). None ≡ slice_get (ranges_of fewer_sets q.of) q.nth) (from_nth slot q e) (sym (get_over (ranges_of fewer_sets id) n (omega (arith, less_long))))
          | false ↦ λ e. good.ranged q ∙ elim (same_surface id q.of) as (λ (t : Bool). same_surface id q.of ≡ t → slice_get (ranges_of sets q.of) q.nth ≡ slice_get (ranges_of fewer_sets q.of) q.nth) [
            | true ↦ λ f.
                let apart : (n == q.nth) ≡ false = second_not (same_surface id q.of) (n == q.nth) e f in
                subst (λ (o : SurfaceId). slice_get (ranges_of sets o) q.nth ≡ slice_get (ranges_of fewer_sets o) q.nth) (from_same id q.of f) (sym (ap (λ l. slice_get l q.nth) less_ranges ∙ get_but_last (ranges_of sets id) n q.nth many apart))
            | false ↦ λ f. ap (λ l. slice_get l q.nth) (sym (changed_other but_last id q.of sets f))
          ] refl
        ] refl

    less_sizes : (h : GroupKey) → or_zero (size' h) ≡ cond (same_key group h) z (or_zero (size h))
    less_sizes h = grind (arith, nat_tests, from_key)

    fewer_seated : IsSeated place_of edge' ends' (λ h. or_zero (size' h))
    fewer_seated =
        seat_fewer same_nth from_nth self_nth place_of edge ends (λ h. or_zero (size h)) good.seated slot gone was z big moved last with_at (λ e. refl) edge' edges ends' ended (λ h. or_zero (size' h)) less_sizes

    pub popped : IsIndexed fewer_sets count' edge' ends' size'
    popped = grind (arith, nat_tests, fewer_counted, fewer_ranged, fewer_seated, changed_ids but_last id sets)

  -- Where the group of the end has a name of its own

  pub popped_in : (id : SurfaceId) (n z : ℕ) (gone : Edge) (moved : Nth) (g : GroupKey) → n + 1 ≡ length (ranges_of sets id) → edge (record { of = id; nth = n }) ≡ Some gone → g ≡ group_of gone.range.end
      → z + 1 ≡ or_zero (size g) → ends (record { group = g; at = z }) ≡ Some moved
      → (count' : SurfaceId → Option ℕ) → ((q : SurfaceId) → count' q ≡ cond (same_surface id q) (option_map (λ _. n) (count q)) (count q))
      → (edge1 edge' : Nth → Option Edge) → ((q : Nth) → edge1 q ≡ cond (same_nth (record { of = id; nth = n }) q) None (edge q))
      → ((q : Nth) → edge' q ≡ cond (same_nth moved q) (option_map (λ e. record { range = e.range; at = gone.at }) (edge1 q)) (edge1 q))
      → (ends1 ends' : Place → Option Nth) → ((p : Place) → ends1 p ≡ cond (same_place (record { group = g; at = z }) p) None (ends p))
      → ((p : Place) → ends' p ≡ cond (same_place (record { group = g; at = gone.at }) p) (option_map (λ _. moved) (ends1 p)) (ends1 p))
      → (size' : GroupKey → Option ℕ) → ((h : GroupKey) → size' h ≡ cond (same_key g h) (option_map (λ _. z) (size h)) (size h))
      → IsIndexed (changing but_last id sets) count' edge' ends' size'
  popped_in id n z gone moved g many was is big last count' counts edge1 edge' first_edges edges ends1 ends' first_ends ended size' sizes =
      popped id n z gone moved many was (big ∙ ap (λ h. or_zero (size h)) is) (ap (λ (g : GroupKey). ends (record { group = g; at = z })) (sym is) ∙ last) count' counts
      edge' (λ q. edges q ∙ ap (λ (o : Option Edge). cond (same_nth moved q) (option_map (λ (e : Edge). record { range = e.range; at = gone.at }) o) o) (first_edges q))
      ends' (λ p. ended p ∙ ap (λ (o : Option Nth). cond (same_place (record { group = g; at = gone.at }) p) (option_map (λ _. moved) o) o) (first_ends p)
      ∙ ap (λ (g : GroupKey). cond (same_place (record { group = g; at = gone.at }) p) (option_map (λ _. moved) (cond (same_place (record { group = g; at = z }) p) None (ends p))) (cond (same_place (record { group = g; at = z }) p) None (ends p))) is)
      size' (λ h. sizes h ∙ ap (λ (g : GroupKey). cond (same_key g h) (option_map (λ _. z) (size h)) (size h)) is)
