-- One collection is enough: what is reached stays reached and shows what it showed, and a second one changes nothing.
use Rattle.std.proofs.Common.{◌≡◌, ◌+◌, Bool, true, false, not, ◌&&◌, ◌||◌, inl, inr, Option, Some, None, List, [], ◌∷◌, map, filter, refl, ap, sym, ◌∙◌, cond, subst, Contains}
use Rattle.std.specs.Prelude.{nat_lt}
use Rattle.std.proofs.lemmas.Bool.{and_parts, or_cases, or_left, or_right, not-true}
use Rattle.vz_ids.specs.declared.SurfaceId.{SurfaceId}
use Rattle.vz_ids.specs.declared.SurfaceRange.{SurfaceRange}
use Rattle.vz_ids.specs.Ids.{same_surface}
use Rattle.vz_rules.specs.declared.entry.State.TheVariants.{Dropped}
use Rattle.vz_rules.specs.World.{World, Surface, FrameData, Submission, active_frames, frame_on, is_waiting, is_active}
use Rattle.vz_rules.specs.Scene.{shown}
use Rattle.vz_rules.specs.Reach.{has_id, naming, has_closed, is_temporary, root_list, roots, reach, is_lost, destroy, drop_on, lost_in, clearing, collect}
use Rattle.vz_rules.specs.Kept.{KeepsAlways, stands_in}
use Rattle.vz_rules.proofs.Reached.{from_same, reach_is_least}
use Rattle.vz_rules.proofs.Members.{same_tests, contains_map, map_contains, any_at, any_from, filter_at, filter_has, none_filtered, map_fixed}
use Rattle.vz_rules.proofs.Kept_follows.{always_naming}
use Rattle.vz_rules.proofs.Kept_once.{Cleared, unlost, reached_unlost, destroys_not, found_kept}
use Rattle.vz_rules.proofs.Kept_reach.{refers, with_added, stands_back, lost_by, reach_stays, none_lost_after, named_after, all_named_after, naming_stays, refers_alike, ranges_stay}
use Rattle.vz_rules.proofs.Kept_between.{dropped_frames}
use Rattle.vz_rules.proofs.Facts.{same_when}

pub cleared_by : (w : World) → Cleared w (clearing w)
unfolding clearing
cleared_by w = record { active = dropped_frames w w.subs; surfaces = refl; root = refl; tick = refl; closed = λ c. refl }

-- What is shown

-- a range that a reached surface references shows what it showed
pub shown_once : (w : World) (id : SurfaceId) (i : FrameData) (range : SurfaceRange) → KeepsAlways w → has_id (reach w) id ≡ true
    → frame_on id (active_frames w.subs) ≡ Some i
    → Contains i.frame.metadata.references range → shown (clearing w) range ≡ shown w range
shown_once w id i range h k on c = ranges_stay w (clearing w) (frame_on id (active_frames w.subs)) h (cleared_by w) (λ z e. (reach_is_least w).closed id z k e) i on range c

-- and the reached surface has the frame that it had
pub frame_once : (w : World) (id : SurfaceId) → has_id (reach w) id ≡ true → frame_on id (active_frames (clearing w).subs) ≡ frame_on id (active_frames w.subs)
frame_once w id k =
    ap (frame_on id) (cleared_by w).active ∙ found_kept (unlost w) id (active_frames w.subs) (λ i on. reached_unlost w i (ap (has_id (reach w)) (from_same i.id id on) ∙ k))

-- What is reached

stands_before : (w v : World) (id : SurfaceId) → Cleared w v → stands_in v.surfaces id ≡ true → stands_in w.surfaces id ≡ true
stands_before w v id cleared e =
    stands_back (destroy (reach w)) w.surfaces id (λ c. same_when (λ (x : Surface). x.id) (is_lost (reach w) c) _ c refl)
    (λ c k. (lost_by (reach w) c (is_lost (reach w) c) refl k).1) (ap (λ l. stands_in l id) (sym cleared.surfaces) ∙ e)

root_by : (t u : Bool) (id x : SurfaceId) → (t ≡ true → u ≡ true) → has_id (cond t (id ∷ []) []) x ≡ true → has_id (cond u (id ∷ []) []) x ≡ true
root_by true true id x h e = e
root_by true false id x h e = let k : false ≡ true = h refl in absurd (cc)
root_by false u id x h e = absurd (cc)

root_before : (w v : World) (root : Option SurfaceId) (x : SurfaceId) → Cleared w v
    → has_id (elim root [ Some id ↦ cond (stands_in v.surfaces id) (id ∷ []) [] | None ↦ [] ]) x ≡ true
    → has_id (elim root [ Some id ↦ cond (stands_in w.surfaces id) (id ∷ []) [] | None ↦ [] ]) x ≡ true
root_before w v None x cleared e = e
root_before w v (Some id) x cleared e = root_by (stands_in v.surfaces id) (stands_in w.surfaces id) id x (stands_before w v id cleared) e

temporary_before : (w v : World) (x : SurfaceId) → Cleared w v → has_id (map (λ (c : Surface). c.id) (filter (is_temporary v) v.surfaces)) x ≡ true
    → has_id (map (λ (c : Surface). c.id) (filter (is_temporary w) w.surfaces)) x ≡ true
temporary_before w v x cleared e =
    let m = any_at (same_surface x) (map (λ (c : Surface). c.id) (filter (is_temporary v) v.surfaces)) e in
    let c = contains_map (λ (c : Surface). c.id) (filter (is_temporary v) v.surfaces) m.0 m.1 in
    let f = filter_at (is_temporary v) v.surfaces c.0 c.1 in
    let d = contains_map (destroy (reach w)) w.surfaces c.0 (subst (λ l. Contains l c.0) cleared.surfaces f.0) in
    let stands = not-true c.0.destroyed (and_parts (not c.0.destroyed) (not c.0.named) (and_parts (not c.0.destroyed && not c.0.named) (not (has_closed v c.0.client)) (and_parts (not c.0.destroyed && not c.0.named && not (has_closed v c.0.client)) (nat_lt v.tick (c.0.born + 16)) f.1).0).0).0 in
    let stays = lost_by (reach w) d.0 (is_lost (reach w) d.0) refl (ap (λ (y : Surface). y.destroyed) d.2 ∙ stands) in
    let same : d.0 ≡ c.0 = sym (destroys_not (reach w) d.0 stays.0) ∙ d.2 in
    let was : is_temporary w c.0 ≡ true =
    ap (λ t. not c.0.destroyed && not c.0.named && not t && nat_lt w.tick (c.0.born + 16)) (sym (cleared.closed c.0.client))
    ∙ (ap (λ n. not c.0.destroyed && not c.0.named && not (has_closed v c.0.client) && nat_lt n (c.0.born + 16)) (sym cleared.tick) ∙ f.1) in
    any_from (same_surface x) (map (λ (c : Surface). c.id) (filter (is_temporary w) w.surfaces)) c.0.id
    (map_contains (λ (c : Surface). c.id) (filter (is_temporary w) w.surfaces) c.0 (filter_has (is_temporary w) w.surfaces c.0 (subst (λ y. Contains w.surfaces y) same d.1) was))
    (ap (same_surface x) c.2 ∙ m.2)

roots_before : (w v : World) (x : SurfaceId) → Cleared w v → has_id (roots v) x ≡ true → has_id (roots w) x ≡ true
unfolding roots
roots_before w v x cleared e =
    let old = map (λ (c : Surface). c.id) (filter (is_temporary w) w.surfaces) in
    let new = map (λ (c : Surface). c.id) (filter (is_temporary v) v.surfaces) in
    with_added (root_list w) old x
    ∙ (elim (or_cases (has_id (root_list v) x) (has_id new x) (sym (with_added (root_list v) new x) ∙ e)) [
      | inl r ↦ or_left (has_id (root_list w) x) (has_id old x)
          (ap (λ (o : Option SurfaceId). has_id (elim o as (λ o. List SurfaceId) [ Some id ↦ cond (stands_in w.surfaces id) (id ∷ []) [] | None ↦ [] ]) x) (sym cleared.root) ∙ root_before w v v.root x cleared r)
      | inr r ↦ or_right (has_id (root_list w) x) (has_id old x) (temporary_before w v x cleared r)
    ])

reach_before : (w v : World) → KeepsAlways w → Cleared w v → (x : SurfaceId) → has_id (reach v) x ≡ true → has_id (reach w) x ≡ true
reach_before w v h cleared x e =
    let old = reach_is_least w in
    (reach_is_least v).least (reach w)
    (λ z p. old.has_roots z (roots_before w v z cleared p))
    (λ y z p q.
    let same : frame_on y (active_frames v.subs) ≡ frame_on y (active_frames w.subs) =
    ap (frame_on y) cleared.active ∙ found_kept (unlost w) y (active_frames w.subs) (λ i on. reached_unlost w i (ap (has_id (reach w)) (from_same i.id y on) ∙ p)) in
    old.closed y z p (refers_alike v w (frame_on y (active_frames w.subs)) z (λ i is r c. sym (ranges_stay w v (frame_on y (active_frames w.subs)) h cleared (λ u f. old.closed y u p f) i is r c))
    (ap (λ o. has_id (refers v o) z) (sym same) ∙ q)))
    x e

-- exactly what was reached is reached after the others were destroyed
pub reach_once : (w : World) (x : SurfaceId) → KeepsAlways w → has_id (reach (clearing w)) x ≡ has_id (reach w) x
reach_once w x h = same_tests (has_id (reach (clearing w)) x) (has_id (reach w) x) (reach_before w (clearing w) h (cleared_by w) x) (reach_stays w (clearing w) h (cleared_by w) x)

-- A second collection

drops_none : (t : Bool) (s : Submission) → cond (t && false) (record s { state = Dropped }) s ≡ s
drops_none true s = refl
drops_none false s = refl

-- where nothing is lost nothing changes
pub clearing_stays : (w : World) → lost_in w ≡ [] → clearing w ≡ w
unfolding clearing lost_in
clearing_stays w none =
    let subs : map (drop_on (lost_in w)) w.subs ≡ w.subs =
    ap (λ l. map (drop_on l) w.subs) none ∙ map_fixed (drop_on []) w.subs (λ s c. drops_none (is_waiting s || is_active s) s) in
    let surfaces : map (destroy (reach w)) w.surfaces ≡ w.surfaces =
    map_fixed (destroy (reach w)) w.surfaces (λ c p. destroys_not (reach w) c (none_filtered (is_lost (reach w)) w.surfaces c none p)) in
    ap (λ l. record w { surfaces = l; subs = map (drop_on (lost_in w)) w.subs }) surfaces ∙ ap (λ l. record w { subs = l }) subs

pub collect_stays : (w : World) → naming w ≡ w → lost_in w ≡ [] → collect w ≡ w
unfolding collect
collect_stays w named none = ap clearing named ∙ clearing_stays w none

-- a second collection changes nothing
pub collect_once : (w : World) → KeepsAlways w → collect (collect w) ≡ collect w
unfolding collect
collect_once w h =
    let v = naming w in
    let cleared = cleared_by v in
    ap clearing (naming_stays (clearing v) (all_named_after v (clearing v) cleared (named_after w)))
    ∙ clearing_stays (clearing v) (none_lost_after v (clearing v) (always_naming w h) cleared)
