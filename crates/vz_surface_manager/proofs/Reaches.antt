-- What is reached over what is kept is what is reached in the machine's state.
use Rattle.std.proofs.Common.{true, false, ◌+◌, ◌≤◌, length, arith, ◌≡◌, Option, None, IfSome, IsTrue, List, ap, ◌∙◌, subst}
use Rattle.std.specs.List.{list_any}
use Rattle.vz_ids.specs.{declared.SurfaceId.SurfaceId, declared.SurfaceRange.SurfaceRange, Ids.same_surface}
use Rattle.vz_rules.specs.{World.World, Closure.IsLeastClosed, Scene.shown, Reach.has_id, Reach.naming, Reach.reach, Kept.KeepsAlways}
use Rattle.vz_frame.specs.Frame.{has_repeat}
use Rattle.vz_rules.proofs.{Marking.fits, Reached.from_same, Reached.self_same}
use Rattle.vz_refs.specs.Referring.{Ranged, Temporary, is_set, next_in, starts}
use Rattle.vz_refs.proofs.Gathering.{all_of, all_fit, next_inside, starts_inside}
use Rattle.vz_surfaces.specs.{Stored.Stored, Stored.stored_of, Reading.shown_in}
use Rattle.vz_surfaces.proofs.Telling.{tells_exists, tells_shown}
use Rattle.vz_surface_manager.specs.{Kept_surfaces.if_exists, Live.Live, Live.AreLive, Roots.if_stands}
use Rattle.vz_surface_manager.proofs.Rooted.{shown_set, marked_reached}
use Rattle.std.proofs.lemmas.Bool.Decides.{nat_tests}

-- the root where it exists
pub root_there : (w : World) (st : Stored) (root : Option SurfaceId) → st ≡ stored_of w → if_stands st root ≡ if_exists w root
root_there w st root e = grind (arith, nat_tests, tells_exists)

module _ (w : World) (but : Option SurfaceId) (v : Live) (h : KeepsAlways w) (live : AreLive w but v) where
  pub shows_is : (x : SurfaceRange) → shown_in v.store x ≡ shown w x
  shows_is x = ap (λ (s : Stored). shown_in s x) live.store ∙ tells_shown w x h

  pub set_there : (x : SurfaceRange) → IfSome (shown_in v.store x) (λ id. IsTrue (is_set v.kept.sets id))
  set_there = shown_set w but v.kept (shown_in v.store) shows_is live.kept

pub reaches : (w : World) (v : Live) (given root : Option SurfaceId) (ids : List SurfaceId) → KeepsAlways w → AreLive w None v → naming w ≡ w → given ≡ w.root
    → root ≡ if_stands v.store given
    → IsLeastClosed same_surface (next_in (shown_in v.store) v.kept.sets) (starts root v.kept.temporary) ids → (id : SurfaceId) → has_id ids id ≡ has_id (reach w) id
reaches w v given root ids h live named e f least =
    marked_reached w v.kept named live.kept (shown_in v.store) ids (shows_is w None v h live)
    (subst (λ r. IsLeastClosed same_surface (next_in (shown_in v.store) v.kept.sets) (starts r v.kept.temporary) ids)
    (f ∙ (root_there w v.store given live.store ∙ ap (if_exists w) e)) least)

-- they are no more than what is set, what is temporary, and the root
pub few_reached : (shows : SurfaceRange → Option SurfaceId) (sets : List Ranged) (root : Option SurfaceId) (kept : List Temporary) (ids : List SurfaceId)
    → ((x : SurfaceRange) → IfSome (shows x) (λ id. IsTrue (is_set sets id)))
    → IsLeastClosed same_surface (next_in shows sets) (starts root kept) ids → has_repeat same_surface ids ≡ false → length ids ≤ length sets + length kept + 1
few_reached shows sets root kept ids set least once =
    let inside : (x : SurfaceId) → list_any (same_surface x) ids ≡ true → list_any (same_surface x) (all_of sets root kept) ≡ true =
    least.least (all_of sets root kept) (starts_inside sets root kept) (λ y x e f. next_inside shows sets root kept set y x f) in
    omega (arith, fits same_surface from_same self_same ids (all_of sets root kept) once inside, all_fit sets root kept (length sets + length kept + 1) (omega arith))
