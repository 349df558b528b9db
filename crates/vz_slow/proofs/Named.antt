-- Which surfaces are named, by the ends of what is referenced.
use Rattle.std.proofs.Common.{◌≡◌, Bool, true, false, not, ◌&&◌, ◌||◌, List, [], ◌∷◌, map, refl, ap, ◌∙◌, if◌then◌else◌}
use Rattle.std.proofs.lemmas.List.Folds.{list_any-append}
use Rattle.std.specs.List.{list_any, flat_map}
use Rattle.vz_ids.specs.declared.SurfaceId.{SurfaceId}
use Rattle.vz_ids.specs.declared.SurfaceRange.{SurfaceRange}
use Rattle.vz_ids.specs.Ids.{at_least}
use Rattle.vz_rules.specs.World.{World, Submission, Surface, exists, is_active}
use Rattle.vz_rules.specs.Reach.{names, is_named_now, naming}
use Rattle.vz_state.specs.Naming.{ends_of, is_named_by}
use Rattle.vz_slow.proofs.Rounds.{any_map}

-- a surface by a test
abbrev pub named_if : (Surface → Bool) → Surface → Surface
named_if p c = if p c then record c { named = true } else c

-- a surface exists and is named now
abbrev pub newly_named : World → Surface → Bool
newly_named w c = not c.destroyed && is_named_now w c.id

-- what the flags make of a world is its naming
pub naming_is : (w v : World) → v ≡ w → (surfaces : List Surface) → surfaces ≡ map (named_if (newly_named w)) v.surfaces → ◌≡◌ {A = World} (record v { surfaces = surfaces }) (naming w)
unfolding naming
naming_is w v e surfaces is =
    let with_surfaces : World → World = λ u. record u { surfaces = surfaces } in
    let with_list : List Surface → World = λ l. record w { surfaces = l } in
    ap with_surfaces e ∙ ap with_list (is ∙ ap (λ (u : World). map (named_if (newly_named w)) u.surfaces) e)

-- an end of a submission's references names a surface where a reference of it does
end_names : (w : World) (id : SurfaceId) (s : Submission) → list_any (λ i. at_least i id) (ends_of w s)
    ≡ (is_active s && exists w s.submitted.id && list_any (names id) s.submitted.frame.metadata.references)
end_names w id s = by (is_active s && exists w s.submitted.id)
  where
    by : (t : Bool) → list_any (λ i. at_least i id) (if t then map (λ (r : SurfaceRange). r.end) s.submitted.frame.metadata.references else [])
        ≡ (t && list_any (names id) s.submitted.frame.metadata.references)
    by true = any_map (λ i. at_least i id) (λ (r : SurfaceRange). r.end) s.submitted.frame.metadata.references
    by false = refl

-- and so it is with all of them
ends_name : (w : World) (id : SurfaceId) (subs : List Submission) → list_any (λ i. at_least i id) (flat_map (ends_of w) subs)
    ≡ list_any (λ (s : Submission). is_active s && exists w s.submitted.id && list_any (names id) s.submitted.frame.metadata.references) subs
ends_name w id [] = refl
ends_name w id (s ∷ ss) =
    list_any-append (λ i. at_least i id) (ends_of w s) (flat_map (ends_of w) ss)
    ∙ (ap (λ t. t || list_any (λ i. at_least i id) (flat_map (ends_of w) ss)) (end_names w id s)
    ∙ ap (λ t. (is_active s && exists w s.submitted.id && list_any (names id) s.submitted.frame.metadata.references) || t) (ends_name w id ss))

-- the flags by the ends are those of the surfaces that are named now
pub flags_are : (w : World) (subs : List Submission) (ends : List SurfaceId) (surfaces : List Surface) → subs ≡ w.subs → ends ≡ flat_map (ends_of w) subs
    → map (is_named_by ends) surfaces ≡ map (newly_named w) surfaces
unfolding is_named_now
flags_are w subs ends surfaces e is =
    let same : is_named_by (flat_map (ends_of w) w.subs) ≡ newly_named w = λ i c. not c.destroyed && ends_name w c.id w.subs i in
    ap (λ l. map (is_named_by l) surfaces) (is ∙ ap (flat_map (ends_of w)) e) ∙ ap (λ f. map f surfaces) same
