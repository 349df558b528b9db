-- What is reached, and what is lost.
use Rattle.std.proofs.Common.{◌≡◌, Bool, cond, Option, Some, None, List, [], ◌∷◌, map, length, ap, ◌∙◌, if◌then◌else◌}
use Rattle.std.specs.List.{flat_map}
use Rattle.vz_ids.specs.declared.SurfaceId.{SurfaceId}
use Rattle.vz_rules.specs.World.{World, Client, FrameData, active_frames, exists, Submission, Surface}
use Rattle.vz_rules.specs.Reach.{naming, destroy, drop_on, lost_in, lost_of, reach, clearing, collect, destroyed_in, root_list, roots, referenced}
use Rattle.vz_rules.specs.Closure.{closure}
use Rattle.vz_ids.specs.Ids.{same_surface}
use Rattle.vz_rules.specs.declared.entry.Lost.{Lost}

-- what was done is the clearing of a world
pub clearing_is : (w v : World) → v ≡ w → (kept : List SurfaceId) (lost : List Surface) → kept ≡ reach w → lost ≡ lost_in w
    → (surfaces : List Surface) → surfaces ≡ map (destroy kept) v.surfaces → (submissions : List Submission) → submissions ≡ map (drop_on lost) v.subs
    → ◌≡◌ {A = World} (record v { surfaces = surfaces; subs = submissions }) (clearing w)
unfolding clearing
clearing_is w v e kept lost reached are surfaces destroyed submissions dropped =
    let with_both : World → World = λ u. record u { surfaces = surfaces; subs = submissions } in
    let with_surfaces : List Surface → World = λ l. record w { surfaces = l; subs = submissions } in
    let with_submissions : List Submission → World = λ l. record w { surfaces = map (destroy (reach w)) w.surfaces; subs = l } in
    ap with_both e ∙ (ap with_surfaces (destroyed ∙ (ap (λ (u : World). map (destroy kept) u.surfaces) e ∙ ap (λ k. map (destroy k) w.surfaces) reached))
    ∙ ap with_submissions (dropped ∙ (ap (λ (u : World). map (drop_on lost) u.subs) e ∙ ap (λ l. map (drop_on l) w.subs) are)))

-- naming, and then clearing
pub collect_is : (w v u : World) → v ≡ naming w → u ≡ clearing v → u ≡ collect w
unfolding collect
collect_is w v u e f = f ∙ ap clearing e

-- what is lost after naming
pub destroyed_is : (w v : World) (clients : List Client) (lost : List Surface) (names : List Lost) → v ≡ naming w → clients ≡ v.clients → lost ≡ lost_in v
    → names ≡ flat_map (lost_of lost) clients → names ≡ destroyed_in w
unfolding destroyed_in naming
destroyed_is w v clients lost names e f is all =
    all ∙ (ap (λ l. flat_map (lost_of l) clients) is ∙ (ap (flat_map (lost_of (lost_in v))) f ∙ ap (λ (u : World). flat_map (lost_of (lost_in u)) u.clients) e))

-- the roots, by what is named as the root and whether it exists
abbrev root_by : World → Option SurfaceId → List SurfaceId
root_by w o = elim o [ Some id ↦ (if exists w id then id ∷ [] else []) | None ↦ [] ]

-- the root exists, or does not
pub root_is : (w : World) (id : SurfaceId) (t : Bool) → w.root ≡ Some id → exists w id ≡ t → root_list w ≡ cond t (id ∷ []) []
root_is w id t e h = ap (root_by w) e ∙ ap (λ (k : Bool). if k then id ∷ [] else []) h

-- the closure over the active frames is what is reached
pub reach_is : (w : World) (active : List FrameData) (submissions : List Submission) (ids : List SurfaceId) → active ≡ active_frames submissions → submissions ≡ w.subs
    → ids ≡ closure same_surface (referenced w) (length active) (roots w) → ids ≡ reach w
unfolding reach
reach_is w active submissions ids f g is =
    is ∙ ap (λ (l : List FrameData). closure same_surface (referenced w) (length l) (roots w)) (f ∙ ap active_frames g)
