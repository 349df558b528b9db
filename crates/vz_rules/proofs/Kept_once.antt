-- One collection is enough: destroying what is not reached takes nothing from what is reached.
use Rattle.std.proofs.Common.{◌≡◌, ℕ, Bool, true, false, not, ◌&&◌, Option, Some, None, List, [], ◌∷◌, map, filter, refl, ap, sym, ◌∙◌, cond, Contains}
use Rattle.std.specs.List.{list_any}
use Rattle.std.proofs.lemmas.Bool.{and_parts, both_ways, not-true, false_from_ne_true, not_from_false}
use Rattle.vz_ids.specs.declared.SurfaceId.{SurfaceId}
use Rattle.vz_ids.specs.declared.SurfaceRange.{SurfaceRange}
use Rattle.vz_ids.specs.Ids.{same_surface}
use Rattle.vz_rules.specs.World.{World, Surface, FrameData, Submission, active_frames, frame_on, is_active}
use Rattle.vz_rules.specs.Scene.{shown_frame, shown}
use Rattle.vz_rules.specs.Reach.{has_id, has_closed, reach, is_lost, destroy, lost_in}
use Rattle.vz_rules.specs.Kept.{KeepsAlways}
use Rattle.vz_rules.proofs.Reached.{from_same}
use Rattle.vz_rules.proofs.Members.{contains_map, any_at, filter_at}
use Rattle.vz_rules.proofs.Kept_newest.{IsOnCreated, shown_kept}

-- a frame is on no surface that is lost
abbrev pub unlost : World → FrameData → Bool
unlost w i = not (list_any (λ (c : Surface). same_surface i.id c.id) (lost_in w))

-- what a world leaves when the lost surfaces are destroyed, as far as reaching goes
pub record Cleared (w v : World) : Type 0 where
  pub active : active_frames v.subs ≡ filter (unlost w) (active_frames w.subs)
  pub surfaces : v.surfaces ≡ map (destroy (reach w)) w.surfaces
  pub root : v.root ≡ w.root
  pub tick : v.tick ≡ w.tick
  pub closed : (c : ℕ) → has_closed v c ≡ has_closed w c

-- a surface that is reached is not lost
pub reached_not_lost : (w : World) (c : Surface) → has_id (reach w) c.id ≡ true → is_lost (reach w) c ≡ false
reached_not_lost w c h =
    false_from_ne_true (is_lost (reach w) c) (λ e. both_ways (has_id (reach w) c.id) (not-true (has_id (reach w) c.id) (and_parts (c.marked && not c.destroyed) (not (has_id (reach w) c.id)) e).1) h)

pub destroys_not : (kept : List SurfaceId) (c : Surface) → is_lost kept c ≡ false → destroy kept c ≡ c
destroys_not kept c h = ap (λ (t : Bool). cond t (record c { destroyed = true }) c) h

-- a frame on a reached surface stays
pub reached_unlost : (w : World) (i : FrameData) → has_id (reach w) i.id ≡ true → unlost w i ≡ true
unfolding lost_in
reached_unlost w i h =
    not_from_false (list_any (λ (c : Surface). same_surface i.id c.id) (lost_in w)) (false_from_ne_true (list_any (λ (c : Surface). same_surface i.id c.id) (lost_in w)) (λ e.
    let m = any_at (λ (c : Surface). same_surface i.id c.id) (lost_in w) e in
    let lost = filter_at (is_lost (reach w)) w.surfaces m.0 m.1 in
    both_ways (is_lost (reach w) m.0) (reached_not_lost w m.0 (ap (has_id (reach w)) (sym (from_same i.id m.0.id m.2)) ∙ h)) lost.1))

-- the first on a surface, where all on it are kept
pub found_kept : (kept : FrameData → Bool) (id : SurfaceId) (xs : List FrameData) → ((i : FrameData) → same_surface i.id id ≡ true → kept i ≡ true)
    → frame_on id (filter kept xs) ≡ frame_on id xs
found_kept kept id [] h = refl
found_kept kept id (x ∷ xs) h = by (kept x) (same_surface x.id id) refl refl (found_kept kept id xs h)
  where
    by : (a b : Bool) → kept x ≡ a → same_surface x.id id ≡ b → frame_on id (filter kept xs) ≡ frame_on id xs
        → frame_on id (cond a (x ∷ filter kept xs) (filter kept xs)) ≡ cond b (Some x) (frame_on id xs)
    by true true e f k = ap (λ (t : Bool). cond t (Some x) (frame_on id (filter kept xs))) f
    by true false e f k = ap (λ (t : Bool). cond t (Some x) (frame_on id (filter kept xs))) f ∙ k
    by false true e f k = absurd (both_ways (kept x) e (h x f))
    by false false e f k = k

pub on_created : (w : World) → KeepsAlways w → (i : FrameData) → Contains (active_frames w.subs) i → IsOnCreated w.surfaces i
on_created w h i c =
    let m = contains_map (λ (s : Submission). s.submitted) (filter is_active w.subs) i c in
    let d = h.numbers.created m.0 (filter_at is_active w.subs m.0 m.1).0 in
    (d.0, d.1, d.2 ∙ ap (λ (j : FrameData). j.id) m.2)

-- What is reached stays reached

pub shows_id : (o : Option FrameData) (i : FrameData) → o ≡ Some i → ◌≡◌ {A = Option SurfaceId} (elim o [ Some i ↦ Some i.id | None ↦ None ]) (Some i.id)
shows_id o i e = ap (λ (p : Option FrameData). elim p as (λ p. Option SurfaceId) [ Some i ↦ Some i.id | None ↦ None ]) e

-- a range shows after as before, where what it shows is reached
pub shown_stays : (w v : World) (range : SurfaceRange) → KeepsAlways w → Cleared w v → ((z : SurfaceId) → shown w range ≡ Some z → has_id (reach w) z ≡ true)
    → shown v range ≡ shown w range
unfolding shown
shown_stays w v range h cleared reached =
    ap (λ (o : Option FrameData). elim o as (λ o. Option SurfaceId) [ Some i ↦ Some i.id | None ↦ None ])
    (ap (λ l. shown_frame l range) cleared.active
    ∙ shown_kept w.clients w.surfaces range (unlost w) (active_frames w.subs) h.clients h.surfaces (on_created w h)
    (λ i e. reached_unlost w i (reached i.id (shows_id (shown_frame (active_frames w.subs) range) i e))))
