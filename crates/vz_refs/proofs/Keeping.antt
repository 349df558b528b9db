-- What is set stays for the others, and what is reached is what the machine's state reaches.
use Rattle.std.proofs.Common.{◌≡◌, Bool, true, false, not, ◌&&◌, ◌||◌, Option, Some, None, List, [], ◌∷◌, ◌++◌, map, refl, ap, sym, ◌∙◌, cond, arith}
use Rattle.std.specs.List.{filter_map}
use Rattle.vz_ids.specs.declared.SurfaceId.{SurfaceId}
use Rattle.vz_ids.specs.declared.SurfaceRange.{SurfaceRange}
use Rattle.vz_ids.specs.Ids.{same_surface}
use Rattle.vz_rules.specs.World.{World, FrameData}
use Rattle.vz_rules.specs.Scene.{shown}
use Rattle.vz_rules.specs.Reach.{has_id, referenced, roots, reach}
use Rattle.vz_rules.specs.Closure.{IsLeastClosed}
use Rattle.vz_rules.proofs.Reached.{from_same}
use Rattle.vz_refs.specs.Referring.{Ranged, Temporary, is_set, ranges_of, set_one, setting, removing, next_in, starts}
use Rattle.vz_refs.specs.Meaning.{references_of, AreReferences, AreRoots}
use Rattle.vz_refs.proofs.Same.{flip, apart, together}
use Rattle.vz_refs.proofs.Changing.{behind, set_behind}
use Rattle.vz_rules.proofs.Members.{same_tests as alike}
use Rattle.std.proofs.lemmas.Bool.Decides.{nat_tests}

-- Others keep their ranges

set_others : (sets : List Ranged) (id other : SurfaceId) (ranges : List SurfaceRange) → same_surface id other ≡ false → ranges_of (map (set_one id ranges) sets) other ≡ ranges_of sets other
unfolding ranges_of
set_others [] id other ranges e = refl
set_others (s ∷ sets) id other ranges e = grind (arith, nat_tests, apart s.id id other, set_others sets id other ranges e)

set_own : (sets : List Ranged) (id : SurfaceId) (ranges : List SurfaceRange) → is_set sets id ≡ true → ranges_of (map (set_one id ranges) sets) id ≡ ranges
unfolding ranges_of
set_own [] id ranges e = absurd (cc)
set_own (s ∷ sets) id ranges e = grind (arith, nat_tests, set_own sets id ranges)

by_set : (sets : List Ranged) (id other : SurfaceId) (ranges : List SurfaceRange) (t u : Bool) → is_set sets id ≡ t → same_surface id other ≡ u
    → ranges_of (cond t (map (set_one id ranges) sets) (sets ++ record { id = id; ranges = ranges } ∷ [])) other ≡ cond u ranges (ranges_of sets other)
by_set sets id other ranges true true e f = ap (ranges_of (map (set_one id ranges) sets)) (sym (from_same id other f)) ∙ set_own sets id ranges e
by_set sets id other ranges true false e f = set_others sets id other ranges f
by_set sets id other ranges false u e f = behind sets id other ranges e ∙ ap (λ t. cond t ranges (ranges_of sets other)) f

pub set_ranges : (sets : List Ranged) (id other : SurfaceId) (ranges : List SurfaceRange) → ranges_of (setting id ranges sets) other ≡ cond (same_surface id other) ranges (ranges_of sets other)
unfolding setting
set_ranges sets id other ranges = by_set sets id other ranges (is_set sets id) (same_surface id other) refl refl

-- Which surfaces are set

same_sets : (sets : List Ranged) (id other : SurfaceId) (ranges : List SurfaceRange) → is_set (map (set_one id ranges) sets) other ≡ is_set sets other
same_sets [] id other ranges = refl
same_sets (s ∷ sets) id other ranges = grind (arith, nat_tests, same_sets sets id other ranges)

by_has : (sets : List Ranged) (id other : SurfaceId) (ranges : List SurfaceRange) (t u : Bool) → is_set sets id ≡ t → same_surface id other ≡ u
    → is_set (cond t (map (set_one id ranges) sets) (sets ++ record { id = id; ranges = ranges } ∷ [])) other ≡ (u || is_set sets other)
by_has sets id other ranges true true e f = same_sets sets id other ranges ∙ ap (is_set sets) (sym (from_same id other f)) ∙ e
by_has sets id other ranges true false e f = same_sets sets id other ranges
by_has sets id other ranges false u e f = set_behind sets id other ranges ∙ ap (λ t. t || is_set sets other) f

pub set_has : (sets : List Ranged) (id other : SurfaceId) (ranges : List SurfaceRange) → is_set (setting id ranges sets) other ≡ (same_surface id other || is_set sets other)
unfolding setting
set_has sets id other ranges = by_has sets id other ranges (is_set sets id) (same_surface id other) refl refl

pub removed_ranges : (sets : List Ranged) (id other : SurfaceId) → ranges_of (removing id sets) other ≡ cond (same_surface id other) [] (ranges_of sets other)
unfolding removing ranges_of
removed_ranges [] id other = grind (arith, nat_tests)
removed_ranges (s ∷ sets) id other = grind (arith, nat_tests, removed_ranges sets id other, apart s.id id other, together s.id other id, flip other id)

pub removed_has : (sets : List Ranged) (id other : SurfaceId) → is_set (removing id sets) other ≡ (not (same_surface id other) && is_set sets other)
unfolding removing
removed_has [] id other = grind (arith, nat_tests)
removed_has (s ∷ sets) id other = grind (arith, nat_tests, removed_has sets id other, apart s.id id other, together s.id other id, flip other id)

-- What is reached

by_frame : (w : World) (o : Option FrameData) → filter_map (shown w) (references_of o) ≡ elim o [ Some i ↦ filter_map (shown w) i.frame.metadata.references | None ↦ [] ]
by_frame w x1 = grind (arith, nat_tests)

pub reached : (w : World) (sets : List Ranged) (kept : List Temporary) (root : Option SurfaceId) (ids : List SurfaceId) → IsLeastClosed same_surface (referenced w) (roots w) (reach w)
    → AreReferences w sets → AreRoots w root kept → IsLeastClosed same_surface (next_in (shown w) sets) (starts root kept) ids → (id : SurfaceId) → has_id ids id ≡ has_id (reach w) id
unfolding next_in
reached w sets kept root ids whole references starting least id = grind (arith, nat_tests, by_frame, alike (has_id ids id) (has_id (reach w) id))
