-- The indexes, where a surface has one range more.
use Rattle.std.proofs.Common.{◌≡◌, ℕ, ◌+◌, true, Option, Some, None, List, [], ◌∷◌, ◌++◌, length, slice_get, refl, ap, ◌∙◌, arith, cond}
use Rattle.std.specs.Option.{option_map}
use Rattle.vz_ids.specs.declared.SurfaceId.{SurfaceId}
use Rattle.vz_ids.specs.declared.SurfaceRange.{SurfaceRange}
use Rattle.vz_ids.specs.Ids.{same_surface, group_of}
use Rattle.vz_ids.specs.declared.GroupKey.{GroupKey}
use Rattle.vz_rules.proofs.Reached.{from_same}
use Rattle.vz_refs.specs.declared.sets.Nth.{Nth}
use Rattle.vz_refs.specs.declared.sets.Place.{Place}
use Rattle.vz_refs.specs.declared.sets.Edge.{Edge}
use Rattle.vz_refs.specs.Referring.{Ranged, is_set, ranges_of}
use Rattle.vz_refs.specs.Indexing.{changing, one_more, same_nth, same_key, same_place, place_of, or_zero, IsIndexed}
use Rattle.vz_refs.specs.Seated.{IsSeated}
use Rattle.vz_refs.proofs.Seating.{sized, seat_more}
use Rattle.vz_refs.proofs.Same.{from_nth, self_nth, second_not}
use Rattle.vz_refs.proofs.Changing.{changed_set, changed_other, changed_own, changed_ids, get_last, get_before, get_over}
use Rattle.std.proofs.lemmas.Bool.Decides.{nat_tests}

one_longer : {A : Type 0} (xs : List A) (x : A) → length (xs ++ x ∷ []) ≡ length xs + 1
one_longer [] x = refl
one_longer (y ∷ xs) x = let rest = one_longer xs x in omega (arith, rest)

module _ (sets : List Ranged) (count : SurfaceId → Option ℕ) (edge : Nth → Option Edge) (ends : Place → Option Nth) (size : GroupKey → Option ℕ) (good : IsIndexed sets count edge ends size) where
  -- A range more

  module _ (id : SurfaceId) (range : SurfaceRange) (n z : ℕ) (there : is_set sets id ≡ true) (many : n ≡ length (ranges_of sets id)) (big : z ≡ or_zero (size (group_of range.end)))
      (count' : SurfaceId → Option ℕ) (counts : (q : SurfaceId) → count' q ≡ cond (same_surface id q) (option_map (λ _. n + 1) (count q)) (count q))
      (edge' : Nth → Option Edge) (edges : (q : Nth) → edge' q ≡ cond (same_nth (record { of = id; nth = n }) q) (Some (record { range = range; at = z })) (edge q))
      (ends' : Place → Option Nth) (ended : (p : Place) → ends' p ≡ cond (same_place (record { group = group_of range.end; at = z }) p) (Some (record { of = id; nth = n })) (ends p))
      (size' : GroupKey → Option ℕ) (sizes : (h : GroupKey) → size' h ≡ cond (same_key (group_of range.end) h) (Some (z + 1)) (size h)) where
    abbrev new_sets : List Ranged
    new_sets = changing (one_more range) id sets

    abbrev here : Nth
    here = record { of = id; nth = n }

    abbrev put : Edge
    put = record { range = range; at = z }

    own_ranges : ranges_of new_sets id ≡ ranges_of sets id ++ range ∷ []
    own_ranges = changed_own (one_more range) id sets there

    more_counted : (q : SurfaceId) → count' q ≡ cond (is_set new_sets q) (Some (length (ranges_of new_sets q))) None
    more_counted q = grind (arith, nat_tests, from_same id q, changed_other (one_more range) id q sets, changed_set (one_more range) id q sets, one_longer (ranges_of sets id) range, own_ranges)

    more_ranged : (q : Nth) → option_map (λ e. e.range) (edge' q) ≡ slice_get (ranges_of new_sets q.of) q.nth
    more_ranged q = grind (arith, nat_tests, from_nth, own_ranges, get_last, from_same, second_not, get_before, changed_other)

    -- nothing stood there
    nothing : edge here ≡ None
    nothing = grind (arith, nat_tests, get_over (ranges_of sets id) n)

    more_seated : IsSeated place_of edge' ends' (λ h. or_zero (size' h))
    more_seated =
        seat_more same_nth from_nth self_nth place_of edge ends (λ h. or_zero (size h)) good.seated here put nothing big edge' edges ends' ended (λ h. or_zero (size' h))
        (λ h. ap or_zero (sizes h) ∙ sized (same_key (group_of range.end) h) (z + 1) (size h))

    pub appended : IsIndexed new_sets count' edge' ends' size'
    appended = grind (arith, nat_tests, more_counted, more_ranged, more_seated, changed_ids (one_more range) id sets)

  -- Where the group of the end has a name of its own

  pub appended_in : (id : SurfaceId) (range : SurfaceRange) (n z : ℕ) (g : GroupKey) → is_set sets id ≡ true → n ≡ length (ranges_of sets id) → g ≡ group_of range.end → z ≡ or_zero (size g)
      → (count' : SurfaceId → Option ℕ) → ((q : SurfaceId) → count' q ≡ cond (same_surface id q) (option_map (λ _. n + 1) (count q)) (count q))
      → (edge' : Nth → Option Edge) → ((q : Nth) → edge' q ≡ cond (same_nth (record { of = id; nth = n }) q) (Some (record { range = range; at = z })) (edge q))
      → (ends' : Place → Option Nth) → ((p : Place) → ends' p ≡ cond (same_place (record { group = g; at = z }) p) (Some (record { of = id; nth = n })) (ends p))
      → (size' : GroupKey → Option ℕ) → ((h : GroupKey) → size' h ≡ cond (same_key g h) (Some (z + 1)) (size h))
      → IsIndexed (changing (one_more range) id sets) count' edge' ends' size'
  appended_in id range n z g there many is big count' counts edge' edges ends' ended size' sizes =
      appended id range n z there many (big ∙ ap (λ h. or_zero (size h)) is) count' counts edge' edges
      ends' (λ p. ended p ∙ ap (λ (g : GroupKey). cond (same_place (record { group = g; at = z }) p) (Some (record { of = id; nth = n })) (ends p)) is)
      size' (λ h. sizes h ∙ ap (λ (g : GroupKey). cond (same_key g h) (Some (z + 1)) (size h)) is)
