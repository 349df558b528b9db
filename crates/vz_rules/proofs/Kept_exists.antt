-- What is reached exists.
use Rattle.std.proofs.Common.{◌≡◌, ◌+◌, Bool, true, false, not, ◌&&◌, inl, inr, Option, Some, None, List, [], ◌∷◌, map, filter, filter_map, refl, ap, sym, ◌∙◌, cond}
use Rattle.std.specs.Prelude.{nat_lt}
use Rattle.std.proofs.lemmas.Bool.{and_parts, or_cases, or_right, not-true, not_from_false}
use Rattle.vz_ids.specs.declared.SurfaceId.{SurfaceId}
use Rattle.vz_ids.specs.Ids.{same_surface}
use Rattle.vz_rules.specs.World.{World, Surface, FrameData, Submission, active_frames, frame_on, is_waiting, is_active}
use Rattle.vz_rules.specs.Scene.{shown_frame, shown}
use Rattle.vz_rules.specs.Reach.{has_id, has_closed, is_temporary, root_list, roots, reach}
use Rattle.vz_rules.specs.Kept.{KeepsAlways, stands_in}
use Rattle.vz_rules.proofs.Reached.{from_same, self_same, reach_is_least, has_frame, shown_has}
use Rattle.vz_rules.proofs.Members.{contains_map, map_contains, any_at, any_from, filter_at, filter_has, filter_map_at}
use Rattle.vz_rules.proofs.Kept_worlds.{stands_at, stands_from}
use Rattle.vz_rules.proofs.Kept_reach.{refers, with_added}

-- the surfaces that exist
abbrev standing : World → List SurfaceId
standing w = map (λ (c : Surface). c.id) (filter (λ (c : Surface). not c.destroyed) w.surfaces)

in_standing : (w : World) (x : SurfaceId) → stands_in w.surfaces x ≡ true → has_id (standing w) x ≡ true
in_standing w x h =
    let m = stands_at w.surfaces x h in
    any_from (same_surface x) (standing w) m.0.id
    (map_contains (λ (c : Surface). c.id) (filter (λ (c : Surface). not c.destroyed) w.surfaces) m.0
    (filter_has (λ (c : Surface). not c.destroyed) w.surfaces m.0 m.1 (not_from_false m.0.destroyed m.3)))
    (ap (λ i. same_surface i m.0.id) (sym (from_same m.0.id x m.2)) ∙ self_same m.0.id)

from_standing : (w : World) (x : SurfaceId) → has_id (standing w) x ≡ true → stands_in w.surfaces x ≡ true
from_standing w x h =
    let m = any_at (same_surface x) (standing w) h in
    let c = contains_map (λ (c : Surface). c.id) (filter (λ (c : Surface). not c.destroyed) w.surfaces) m.0 m.1 in
    let f = filter_at (λ (c : Surface). not c.destroyed) w.surfaces c.0 c.1 in
    stands_from w.surfaces x c.0 f.0 (ap (λ i. same_surface i x) (c.2 ∙ sym (from_same x m.0 m.2)) ∙ self_same x) (not-true c.0.destroyed f.1)

root_by : (w : World) (t : Bool) (id x : SurfaceId) → stands_in w.surfaces id ≡ t → has_id (cond t (id ∷ []) []) x ≡ true → stands_in w.surfaces x ≡ true
root_by w true id x e h =
    elim (or_cases (same_surface x id) false h) [ inl s ↦ ap (stands_in w.surfaces) (from_same x id s) ∙ e | inr s ↦ absurd (cc) ]
root_by w false id x e h = absurd (cc)

root_stands : (w : World) (o : Option SurfaceId) (x : SurfaceId)
    → has_id (elim o [ Some id ↦ cond (stands_in w.surfaces id) (id ∷ []) [] | None ↦ [] ]) x ≡ true → stands_in w.surfaces x ≡ true
root_stands w None x h = absurd (cc)
root_stands w (Some id) x h = root_by w (stands_in w.surfaces id) id x refl h

roots_stand : (w : World) (x : SurfaceId) → has_id (roots w) x ≡ true → stands_in w.surfaces x ≡ true
unfolding roots
roots_stand w x h =
    let temporary = map (λ (c : Surface). c.id) (filter (is_temporary w) w.surfaces) in
    elim (or_cases (has_id (root_list w) x) (has_id temporary x) (sym (with_added (root_list w) temporary x) ∙ h)) [
      | inl r ↦ root_stands w w.root x r
      | inr r ↦
          let m = any_at (same_surface x) temporary r in
          let c = contains_map (λ (c : Surface). c.id) (filter (is_temporary w) w.surfaces) m.0 m.1 in
          let f = filter_at (is_temporary w) w.surfaces c.0 c.1 in
          let d = c.0 in
          let stands = (and_parts (not d.destroyed) (not d.named) (and_parts (not d.destroyed && not d.named) (not (has_closed w d.client))
          (and_parts (not d.destroyed && not d.named && not (has_closed w d.client)) (nat_lt w.tick (d.born + 16)) f.1).0).0).0 in
          stands_from w.surfaces x d f.0 (ap (λ i. same_surface i x) (c.2 ∙ sym (from_same x m.0 m.2)) ∙ self_same x) (not-true d.destroyed stands)
    ]

-- the surface of an active frame exists
frame_stands : (w : World) (x : SurfaceId) → KeepsAlways w → has_frame (active_frames w.subs) x ≡ true → stands_in w.surfaces x ≡ true
frame_stands w x h e =
    let i = any_at (λ (i : FrameData). same_surface x i.id) (active_frames w.subs) e in
    let s = contains_map (λ (s : Submission). s.submitted) (filter is_active w.subs) i.0 i.1 in
    let f = filter_at is_active w.subs s.0 s.1 in
    ap (stands_in w.surfaces) (from_same x i.0.id i.2 ∙ ap (λ (j : FrameData). j.id) (sym s.2)) ∙ h.states.stand s.0 f.0 (or_right (is_waiting s.0) (is_active s.0) f.1)

refers_stands : (w : World) (o : Option FrameData) (x : SurfaceId) → KeepsAlways w → has_id (refers w o) x ≡ true → stands_in w.surfaces x ≡ true
unfolding shown
refers_stands w None x h e = absurd (cc)
refers_stands w (Some i) x h e =
    let m = any_at (same_surface x) (filter_map (shown w) i.frame.metadata.references) e in
    let r = filter_map_at (shown w) i.frame.metadata.references m.0 m.1 in
    let seen = by m.0 (shown_frame (active_frames w.subs) r.0) r.2 (shown_has (active_frames w.subs) r.0) in
    ap (stands_in w.surfaces) (from_same x m.0 m.2) ∙ frame_stands w m.0 h seen
  where
    by : (y : SurfaceId) (o : Option FrameData) → ◌≡◌ {A = Option SurfaceId} (elim o [ Some j ↦ Some j.id | None ↦ None ]) (Some y)
        → ((j : FrameData) → o ≡ Some j → has_frame (active_frames w.subs) j.id ≡ true) → has_frame (active_frames w.subs) y ≡ true
    by y None e f = absurd (cc)
    by y (Some j) e f = let same : j.id ≡ y = cc in ap (has_frame (active_frames w.subs)) (sym same) ∙ f j refl

-- each reached surface exists
pub reached_exist : (w : World) (x : SurfaceId) → KeepsAlways w → has_id (reach w) x ≡ true → stands_in w.surfaces x ≡ true
reached_exist w x h e =
    from_standing w x ((reach_is_least w).least (standing w)
    (λ z p. in_standing w z (roots_stand w z p))
    (λ y z p q. in_standing w z (refers_stands w (frame_on y (active_frames w.subs)) z h q)) x e)
