-- Each entry of what is set is the one that is found for its surface.
use Rattle.std.proofs.Common.{◌≡◌, Bool, true, false, not, inl, inr, List, [], ◌∷◌, ◌++◌, map, refl, ap, ◌∙◌, subst, cond, Contains, arith}
use Rattle.std.proofs.{lemmas.Bool.both_ways, lemmas.Bool.Decides.nat_tests}
use Rattle.vz_ids.specs.{declared.SurfaceId.SurfaceId, declared.SurfaceRange.SurfaceRange, Ids.same_surface}
use Rattle.vz_rules.proofs.{Reached.from_same, Reached.self_same, Members.contains_map, Members.contains_push, Members.filter_at, Members.any_from}
use Rattle.vz_refs.specs.Referring.{Ranged, is_set, ranges_of, set_one, setting, removing}
use Rattle.vz_refs.proofs.Keeping.{set_ranges, removed_ranges}
use Rattle.vz_surface_manager.specs.Kept_surfaces.{AreOwn}
pub use Rattle.std.proofs.lemmas.Bool.{false_from_ne_true as never}

pub other_way : (a b : SurfaceId) → same_surface a b ≡ false → same_surface b a ≡ false
other_way a b e = never (same_surface b a) (λ f. both_ways (same_surface a b) e (ap (same_surface a) (from_same b a f) ∙ self_same a))

here_set : (id : SurfaceId) (refs : List SurfaceRange) (sets : List Ranged) → ranges_of (setting id refs sets) id ≡ refs
here_set id refs sets = set_ranges sets id id refs ∙ ap (λ t. cond t refs (ranges_of sets id)) (self_same id)

off_set : (id : SurfaceId) (refs : List SurfaceRange) (sets : List Ranged) (s : Ranged) → AreOwn sets → Contains sets s → same_surface s.id id ≡ false
    → ranges_of (setting id refs sets) s.id ≡ s.ranges
off_set id refs sets s own c e = grind (arith, nat_tests, set_ranges sets id s.id refs, other_way s.id id e)

mapped_own : (id : SurfaceId) (refs : List SurfaceRange) (sets : List Ranged) (s : Ranged) → AreOwn sets → Contains sets s
    → ranges_of (setting id refs sets) (set_one id refs s).id ≡ (set_one id refs s).ranges
mapped_own id refs sets s own c = grind (arith, nat_tests, from_same s.id id, here_set id refs sets, off_set id refs sets s own c)

none_set : (sets : List Ranged) (id : SurfaceId) (s : Ranged) → is_set sets id ≡ false → Contains sets s → same_surface s.id id ≡ false
none_set sets id s e c = never (same_surface s.id id) (λ f. both_ways (is_set sets id) e (any_from (λ (x : Ranged). same_surface x.id id) sets s c f))

-- as ranges are set
pub own_setting : (id : SurfaceId) (refs : List SurfaceRange) (sets : List Ranged) → AreOwn sets → AreOwn (setting id refs sets)
unfolding setting
own_setting id refs sets own s c = by (is_set sets id) refl c
  where
    by : (t : Bool) → is_set sets id ≡ t → Contains (cond t (map (set_one id refs) sets) (sets ++ record { id = id; ranges = refs } ∷ [])) s → ranges_of (setting id refs sets) s.id ≡ s.ranges
    by true e m =
        let x = contains_map (set_one id refs) sets s m in
        subst (λ (y : Ranged). ranges_of (setting id refs sets) y.id ≡ y.ranges) x.2 (mapped_own id refs sets x.0 own x.1)
    by false e m =
        elim (contains_push sets (record { id = id; ranges = refs }) s m) [
          | inl x ↦ off_set id refs sets s own x (none_set sets id s e x)
          | inr x ↦ subst (λ (y : Ranged). ranges_of (setting id refs sets) y.id ≡ y.ranges) x (here_set id refs sets)
        ]

-- and as they are removed
pub own_removing : (id : SurfaceId) (sets : List Ranged) → AreOwn sets → AreOwn (removing id sets)
unfolding removing
own_removing id sets own s c =
    let f = kept c in
    removed_ranges sets id s.id ∙ (ap (λ t. cond t [] (ranges_of sets s.id)) (other_way s.id id f.1) ∙ own s f.0)
  where
    off : (t : Bool) → not t ≡ true → t ≡ false
    off true e = absurd (cc)
    off false e = refl

    kept : Contains (removing id sets) s → Contains sets s × (same_surface s.id id ≡ false)
    kept m = let g = filter_at (λ (x : Ranged). not (same_surface x.id id)) sets s m in (g.0, off (same_surface s.id id) g.1)
