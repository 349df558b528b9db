-- After a collection every named surface is named, and no marked one is out of reach.
use Rattle.std.proofs.Common.{◌≡◌, ◌+◌, Bool, true, false, not, ◌&&◌, ◌||◌, inl, inr, Option, Some, None, List, [], ◌∷◌, map, filter, filter_map, refl, ap, sym, ◌∙◌, cond, subst, Contains}
use Rattle.std.specs.Prelude.{nat_lt}
use Rattle.std.specs.List.{list_any}
use Rattle.std.proofs.lemmas.Bool.{and_parts, and_from, or_cases, or_left, or_right, both_ways, not-true, false_from_ne_true, cond-true}
use Rattle.vz_ids.specs.declared.SurfaceId.{SurfaceId}
use Rattle.vz_ids.specs.declared.SurfaceRange.{SurfaceRange}
use Rattle.vz_ids.specs.Ids.{same_surface}
use Rattle.vz_rules.specs.World.{World, Surface, FrameData, Submission, active_frames, frame_on, is_active}
use Rattle.vz_rules.specs.Scene.{shown}
use Rattle.vz_rules.specs.Closure.{adding}
use Rattle.vz_rules.specs.Reach.{has_id, referenced, names, is_named_now, name_one, naming, has_closed, is_temporary, root_list, roots, reach, is_lost, destroy, lost_in}
use Rattle.vz_rules.specs.Kept.{KeepsAlways, stands_in}
use Rattle.vz_rules.proofs.Reached.{from_same, self_same, adding_has, reach_is_least}
use Rattle.vz_rules.proofs.Members.{contains_map, map_contains, any_at, any_from, filter_at, filter_has, filter_none, filter_map_at, filter_map_has, map_fixed}
use Rattle.vz_rules.proofs.Kept_worlds.{stands_at, stands_from}
use Rattle.vz_rules.proofs.Kept_once.{Cleared, unlost, reached_not_lost, reached_unlost, destroys_not, found_kept, shown_stays}
use Rattle.vz_rules.proofs.Facts.{same_when}

-- What is reached

-- a reached surface stays as it is
reached_here : (w v : World) → Cleared w v → (c : Surface) → Contains w.surfaces c → has_id (reach w) c.id ≡ true → Contains v.surfaces c
reached_here w v cleared c p e =
    subst (λ l. Contains l c) (sym cleared.surfaces)
    (subst (λ d. Contains (map (destroy (reach w)) w.surfaces) d) (destroys_not (reach w) c (reached_not_lost w c e)) (map_contains (destroy (reach w)) w.surfaces c p))

reached_stands : (w v : World) (id : SurfaceId) → Cleared w v → stands_in w.surfaces id ≡ true → has_id (reach w) id ≡ true → stands_in v.surfaces id ≡ true
reached_stands w v id cleared s e =
    let m = stands_at w.surfaces id s in
    stands_from v.surfaces id m.0 (reached_here w v cleared m.0 m.1 (ap (has_id (reach w)) (from_same m.0.id id m.2) ∙ e)) m.2 m.3

root_by : (t u : Bool) (id x : SurfaceId) → (t ≡ true → same_surface x id ≡ true → u ≡ true) → has_id (cond t (id ∷ []) []) x ≡ true
    → has_id (cond u (id ∷ []) []) x ≡ true
root_by true true id x h e = e
root_by true false id x h e =
    elim (or_cases (same_surface x id) false e) [
      | inl s ↦ let k : false ≡ true = h refl s in absurd (cc)
      | inr s ↦ absurd (cc)
    ]
root_by false u id x h e = absurd (cc)

root_stays : (w v : World) (root : Option SurfaceId) (x : SurfaceId) → Cleared w v → has_id (reach w) x ≡ true
    → has_id (elim root [ Some id ↦ cond (stands_in w.surfaces id) (id ∷ []) [] | None ↦ [] ]) x ≡ true
    → has_id (elim root [ Some id ↦ cond (stands_in v.surfaces id) (id ∷ []) [] | None ↦ [] ]) x ≡ true
root_stays w v None x cleared k e = e
root_stays w v (Some id) x cleared k e =
    root_by (stands_in w.surfaces id) (stands_in v.surfaces id) id x (λ s same. reached_stands w v id cleared s (ap (has_id (reach w)) (sym (from_same x id same)) ∙ k)) e

temporary_stays : (w v : World) (x : SurfaceId) → Cleared w v → has_id (reach w) x ≡ true
    → has_id (map (λ (c : Surface). c.id) (filter (is_temporary w) w.surfaces)) x ≡ true
    → has_id (map (λ (c : Surface). c.id) (filter (is_temporary v) v.surfaces)) x ≡ true
temporary_stays w v x cleared k e =
    let m = any_at (same_surface x) (map (λ (c : Surface). c.id) (filter (is_temporary w) w.surfaces)) e in
    let c = contains_map (λ (c : Surface). c.id) (filter (is_temporary w) w.surfaces) m.0 m.1 in
    let f = filter_at (is_temporary w) w.surfaces c.0 c.1 in
    let same : x ≡ c.0.id = from_same x m.0 m.2 ∙ sym c.2 in
    let here = reached_here w v cleared c.0 f.0 (ap (has_id (reach w)) (sym same) ∙ k) in
    let now : is_temporary v c.0 ≡ true =
    ap (λ t. not c.0.destroyed && not c.0.named && not t && nat_lt v.tick (c.0.born + 16)) (cleared.closed c.0.client)
    ∙ (ap (λ n. not c.0.destroyed && not c.0.named && not (has_closed w c.0.client) && nat_lt n (c.0.born + 16)) cleared.tick ∙ f.1) in
    any_from (same_surface x) (map (λ (c : Surface). c.id) (filter (is_temporary v) v.surfaces)) c.0.id
    (map_contains (λ (c : Surface). c.id) (filter (is_temporary v) v.surfaces) c.0 (filter_has (is_temporary v) v.surfaces c.0 here now))
    (ap (λ i. same_surface i c.0.id) same ∙ self_same c.0.id)

pub with_added : (xs more : List SurfaceId) (x : SurfaceId) → has_id (adding same_surface xs more) x ≡ (has_id xs x || has_id more x)
with_added xs more x = adding_has SurfaceId same_surface from_same self_same (λ y. []) [] (λ y z h. h) more xs x

roots_stay : (w v : World) (x : SurfaceId) → Cleared w v → has_id (reach w) x ≡ true → has_id (roots w) x ≡ true → has_id (roots v) x ≡ true
unfolding roots
roots_stay w v x cleared k e =
    let old = map (λ (c : Surface). c.id) (filter (is_temporary w) w.surfaces) in
    let new = map (λ (c : Surface). c.id) (filter (is_temporary v) v.surfaces) in
    with_added (root_list v) new x
    ∙ (elim (or_cases (has_id (root_list w) x) (has_id old x) (sym (with_added (root_list w) old x) ∙ e)) [
      | inl r ↦ or_left (has_id (root_list v) x) (has_id new x)
          (ap (λ (o : Option SurfaceId). has_id (elim o as (λ o. List SurfaceId) [ Some id ↦ cond (stands_in v.surfaces id) (id ∷ []) [] | None ↦ [] ]) x) cleared.root ∙ root_stays w v w.root x cleared k r)
      | inr r ↦ or_right (has_id (root_list v) x) (has_id new x) (temporary_stays w v x cleared k r)
    ])

-- what a frame references, as it is shown
abbrev pub refers : World → Option FrameData → List SurfaceId
refers w o = elim o [ Some i ↦ filter_map (shown w) i.frame.metadata.references | None ↦ [] ]

-- where a frame's ranges show in one world what they show in the other
pub refers_alike : (u v : World) (o : Option FrameData) (x : SurfaceId) → ((i : FrameData) → o ≡ Some i → (range : SurfaceRange) → Contains i.frame.metadata.references range → shown v range ≡ shown u range)
    → has_id (refers u o) x ≡ true → has_id (refers v o) x ≡ true
refers_alike u v None x same e = e
refers_alike u v (Some i) x same e =
    let refs = i.frame.metadata.references in
    let m = any_at (same_surface x) (filter_map (shown u) refs) e in
    let r = filter_map_at (shown u) refs m.0 m.1 in
    any_from (same_surface x) (filter_map (shown v) refs) m.0 (filter_map_has (shown v) refs r.0 m.0 r.1 (same i refl r.0 r.1 ∙ r.2)) m.2

-- the ranges of a frame all of whose references are reached show what they showed
pub ranges_stay : (w v : World) (o : Option FrameData) → KeepsAlways w → Cleared w v → ((z : SurfaceId) → has_id (refers w o) z ≡ true → has_id (reach w) z ≡ true)
    → (i : FrameData) → o ≡ Some i → (range : SurfaceRange) → Contains i.frame.metadata.references range → shown v range ≡ shown w range
ranges_stay w v o h cleared reached i is range c =
    shown_stays w v range h cleared (λ z k. reached z (ap (λ x. has_id (refers w x) z) is
    ∙ any_from (same_surface z) (filter_map (shown w) i.frame.metadata.references) z (filter_map_has (shown w) i.frame.metadata.references range z c k) (self_same z)))

referenced_stay : (w v : World) (y x : SurfaceId) → KeepsAlways w → Cleared w v → has_id (reach w) y ≡ true → has_id (referenced w y) x ≡ true
    → has_id (referenced v y) x ≡ true
referenced_stay w v y x h cleared k e =
    let same : frame_on y (active_frames v.subs) ≡ frame_on y (active_frames w.subs) =
    ap (frame_on y) cleared.active
    ∙ found_kept (unlost w) y (active_frames w.subs) (λ i on. reached_unlost w i (ap (has_id (reach w)) (from_same i.id y on) ∙ k)) in
    ap (λ o. has_id (refers v o) x) same
    ∙ refers_alike w v (frame_on y (active_frames w.subs)) x (ranges_stay w v (frame_on y (active_frames w.subs)) h cleared (λ z f. (reach_is_least w).closed y z k f)) e

pub reach_stays : (w v : World) → KeepsAlways w → Cleared w v → (x : SurfaceId) → has_id (reach w) x ≡ true → has_id (reach v) x ≡ true
reach_stays w v h cleared x e =
    let old = reach_is_least w in
    let new = reach_is_least v in
    let both : List SurfaceId = filter (has_id (reach w)) (reach v) in
    let has_both : (z : SurfaceId) → has_id (reach w) z ≡ true → has_id (reach v) z ≡ true → has_id both z ≡ true = λ z p q.
    let m = any_at (same_surface z) (reach v) q in
    any_from (same_surface z) both m.0 (filter_has (has_id (reach w)) (reach v) m.0 m.1 (ap (has_id (reach w)) (sym (from_same z m.0 m.2)) ∙ p)) m.2 in
    let from_both : (z : SurfaceId) → has_id both z ≡ true → (has_id (reach w) z ≡ true) × (has_id (reach v) z ≡ true) = λ z p.
    let m = any_at (same_surface z) both p in
    let f = filter_at (has_id (reach w)) (reach v) m.0 m.1 in
    (ap (has_id (reach w)) (from_same z m.0 m.2) ∙ f.1, any_from (same_surface z) (reach v) m.0 f.0 m.2) in
    (from_both x (old.least both
    (λ z p. let k = old.has_roots z p in has_both z k (new.has_roots z (roots_stay w v z cleared k p)))
    (λ y z p q.
    let k = from_both y p in
    has_both z (old.closed y z k.0 q) (new.closed y z k.1 (referenced_stay w v y z h cleared k.0 q)))
    x e)).1

pub lost_by : (kept : List SurfaceId) (c : Surface) (t : Bool) → is_lost kept c ≡ t → (cond t (record c { destroyed = true }) c).destroyed ≡ false
    → (t ≡ false) × (c.destroyed ≡ false)
lost_by kept c true e h = absurd (cc)
lost_by kept c false e h = (refl, h)

pub not_lost : (m d h : Bool) → (m && not d && not h) ≡ false → m ≡ true → d ≡ false → h ≡ true
not_lost true true h e p q = absurd (cc)
not_lost true false true e p q = refl
not_lost _ _ _ e p q = absurd (cc)

-- afterwards nothing is lost
pub none_lost_after : (w v : World) → KeepsAlways w → Cleared w v → lost_in v ≡ []
unfolding lost_in
none_lost_after w v h cleared =
    filter_none (is_lost (reach v)) v.surfaces (λ c p. false_from_ne_true (is_lost (reach v) c) (λ e.
    let outer = and_parts (c.marked && not c.destroyed) (not (has_id (reach v) c.id)) e in
    let inner = and_parts c.marked (not c.destroyed) outer.0 in
    let m = contains_map (destroy (reach w)) w.surfaces c (subst (λ l. Contains l c) cleared.surfaces p) in
    let stays = lost_by (reach w) m.0 (is_lost (reach w) m.0) refl (ap (λ (x : Surface). x.destroyed) m.2 ∙ not-true c.destroyed inner.1) in
    let same : m.0 ≡ c = sym (destroys_not (reach w) m.0 stays.0) ∙ m.2 in
    let reached = not_lost m.0.marked m.0.destroyed (has_id (reach w) m.0.id) stays.0 (ap (λ (x : Surface). x.marked) same ∙ inner.0) stays.1 in
    both_ways (has_id (reach v) c.id) (not-true (has_id (reach v) c.id) outer.1) (reach_stays w v h cleared c.id (ap (λ (x : Surface). has_id (reach w) x.id) (sym same) ∙ reached))))

-- Naming

abbrev pub named_by : List Surface → SurfaceId → List FrameData → Bool
named_by ss id active = list_any (λ (i : FrameData). stands_in ss i.id && list_any (names id) i.frame.metadata.references) active

active_one : (t e n : Bool) (s : Submission) (ss : List Surface) (id : SurfaceId) (xs : List Submission) → stands_in ss s.submitted.id ≡ e
    → list_any (names id) s.submitted.frame.metadata.references ≡ n → (r : Bool) → r ≡ named_by ss id (map (λ (x : Submission). x.submitted) (filter is_active xs))
    → ((t && e && n) || r) ≡ named_by ss id (map (λ (x : Submission). x.submitted) (cond t (s ∷ filter is_active xs) (filter is_active xs)))
active_one true e n s ss id xs p q r h =
    ap (λ x. (e && n) || x) h
    ∙ (ap (λ x. (x && n) || named_by ss id (map (λ (x : Submission). x.submitted) (filter is_active xs))) (sym p)
    ∙ ap (λ x. (stands_in ss s.submitted.id && x) || named_by ss id (map (λ (x : Submission). x.submitted) (filter is_active xs))) (sym q))
active_one false e n s ss id xs p q r h = h

named_frames : (w : World) (id : SurfaceId) (subs : List Submission)
    → list_any (λ s. is_active s && stands_in w.surfaces s.submitted.id && list_any (names id) s.submitted.frame.metadata.references) subs ≡ named_by w.surfaces id (active_frames subs)
named_frames w id [] = refl
named_frames w id (s ∷ subs) =
    active_one (is_active s) (stands_in w.surfaces s.submitted.id) (list_any (names id) s.submitted.frame.metadata.references) s w.surfaces id subs refl refl _ (named_frames w id subs)

pub named_is : (w : World) (id : SurfaceId) → is_named_now w id ≡ named_by w.surfaces id (active_frames w.subs)
unfolding is_named_now
named_is w id = named_frames w id w.subs

-- fewer surfaces and frames name no more
named_less : (ss more : List Surface) (id : SurfaceId) (xs ys : List FrameData) → ((i : SurfaceId) → stands_in ss i ≡ true → stands_in more i ≡ true)
    → ((i : FrameData) → Contains xs i → Contains ys i)
    → named_by ss id xs ≡ true → named_by more id ys ≡ true
named_less ss more id xs ys stands has e =
    let m = any_at (λ (i : FrameData). stands_in ss i.id && list_any (names id) i.frame.metadata.references) xs e in
    let both = and_parts (stands_in ss m.0.id) (list_any (names id) m.0.frame.metadata.references) m.2 in
    any_from (λ (i : FrameData). stands_in more i.id && list_any (names id) i.frame.metadata.references) ys m.0 (has m.0 m.1)
    (and_from (stands_in more m.0.id) (list_any (names id) m.0.frame.metadata.references) (stands m.0.id both.0) both.1)

pub stands_back : (g : Surface → Surface) (ss : List Surface) (id : SurfaceId) → ((c : Surface) → (g c).id ≡ c.id)
    → ((c : Surface) → (g c).destroyed ≡ false → c.destroyed ≡ false)
    → stands_in (map g ss) id ≡ true → stands_in ss id ≡ true
stands_back g ss id name stands h =
    let m = stands_at (map g ss) id h in
    let c = contains_map g ss m.0 m.1 in
    stands_from ss id c.0 c.1 (ap (λ i. same_surface i id) (sym (name c.0) ∙ ap (λ (x : Surface). x.id) c.2) ∙ m.2) (stands c.0 (ap (λ (x : Surface). x.destroyed) c.2 ∙ m.3))

-- every existing surface that is named now was named
abbrev pub AllNamed : World → Type 0
AllNamed w = (c : Surface) → Contains w.surfaces c → c.destroyed ≡ false → is_named_now w c.id ≡ true → c.named ≡ true

pub named_after : (w : World) → AllNamed (naming w)
unfolding naming
named_after w c p d e =
    let m = contains_map (name_one w) w.surfaces c p in
    let t = not m.0.destroyed && is_named_now w m.0.id in
    let stands : m.0.destroyed ≡ false = sym (same_when (λ (x : Surface). x.destroyed) t _ m.0 refl) ∙ (ap (λ (x : Surface). x.destroyed) m.2 ∙ d) in
    let id : m.0.id ≡ c.id = sym (same_when (λ (x : Surface). x.id) t _ m.0 refl) ∙ ap (λ (x : Surface). x.id) m.2 in
    let before : is_named_now w m.0.id ≡ true =
    named_is w m.0.id
    ∙ named_less (naming w).surfaces w.surfaces m.0.id (active_frames w.subs) (active_frames w.subs)
    (λ i. stands_back (name_one w) w.surfaces i (λ x. same_when (λ (x : Surface). x.id) (not x.destroyed && is_named_now w x.id) _ x refl)
    (λ x k. sym (same_when (λ (x : Surface). x.destroyed) (not x.destroyed && is_named_now w x.id) _ x refl) ∙ k))
    (λ i c. c) (sym (named_is (naming w) m.0.id) ∙ (ap (is_named_now (naming w)) id ∙ e)) in
    ap (λ (x : Surface). x.named) (sym m.2) ∙ ap (λ (x : Surface). x.named) (cond-true t (record m.0 { named = true }) m.0 (and_from (not m.0.destroyed) (is_named_now w m.0.id) (ap not stands) before))

-- as it is after a collection
pub all_named_after : (w v : World) → Cleared w v → AllNamed w → AllNamed v
all_named_after w v cleared named c p d e =
    let m = contains_map (destroy (reach w)) w.surfaces c (subst (λ l. Contains l c) cleared.surfaces p) in
    let stays = lost_by (reach w) m.0 (is_lost (reach w) m.0) refl (ap (λ (x : Surface). x.destroyed) m.2 ∙ d) in
    let same : m.0 ≡ c = sym (destroys_not (reach w) m.0 stays.0) ∙ m.2 in
    let before : is_named_now w m.0.id ≡ true =
    named_is w m.0.id
    ∙ named_less v.surfaces w.surfaces m.0.id (active_frames v.subs) (active_frames w.subs)
    (λ i k. stands_back (destroy (reach w)) w.surfaces i (λ x. same_when (λ (x : Surface). x.id) (is_lost (reach w) x) _ x refl)
    (λ x k. (lost_by (reach w) x (is_lost (reach w) x) refl k).1) (ap (λ l. stands_in l i) (sym cleared.surfaces) ∙ k))
    (λ i k. (filter_at (unlost w) (active_frames w.subs) i (subst (λ l. Contains l i) cleared.active k)).0)
    (sym (named_is v m.0.id) ∙ (ap (λ (x : Surface). is_named_now v x.id) same ∙ e)) in
    ap (λ (x : Surface). x.named) (sym same) ∙ named m.0 m.1 stays.1 before

named_stays : (t : Bool) (c : Surface) → (t ≡ true → c.named ≡ true) → cond t (record c { named = true }) c ≡ c
named_stays true c h = ap (λ n. record c { named = n }) (sym (h refl))
named_stays false c h = refl

-- then naming changes nothing
pub naming_stays : (w : World) → AllNamed w → naming w ≡ w
unfolding naming
naming_stays w h =
    ap (λ l. record w { surfaces = l }) (map_fixed (name_one w) w.surfaces (λ c p. named_stays (not c.destroyed && is_named_now w c.id) c (λ e.
    let both = and_parts (not c.destroyed) (is_named_now w c.id) e in
    h c p (not-true c.destroyed both.0) both.1)))
