-- Reaching starts at the roots of the machine's state, so that what is marked over what is set is what is reached.
use Rattle.std.proofs.Common.{◌≡◌, ℕ, ◌==◌, Bool, true, false, not, ◌&&◌, ◌||◌, Option, Some, None, IfSome, IsTrue, List, [], ◌∷◌, map, filter, refl, ap, sym, ◌∙◌, subst, cond, Contains, arith}
use Rattle.std.specs.Option.{option_to_list}
use Rattle.std.proofs.{lemmas.List.Folds.list_any-append, lemmas.Bool.and_parts, lemmas.Bool.both_ways, lemmas.Bool.or_right}
use Rattle.vz_ids.specs.{declared.SurfaceId.SurfaceId, declared.SurfaceRange.SurfaceRange, Ids.same_surface}
use Rattle.vz_rules.specs.{World.World, World.Surface, World.active_frames, World.exists, Scene.shown, Closure.IsLeastClosed}
use Rattle.vz_rules.specs.Reach.{has_id, is_named_now, naming, has_closed, is_temporary, root_list, roots, reach, is_lost, lost_in}
use Rattle.vz_rules.proofs.{Reached.from_same, Reached.self_same, Reached.reach_is_least, Kept_reach.named_after, Kept_reach.with_added}
use Rattle.vz_rules.proofs.Members.{contains_map, map_contains, any_at, any_from, filter_at, filter_has, same_tests}
use Rattle.vz_refs.specs.Referring.{Referring, Temporary, is_set, next_in, starts}
use Rattle.vz_refs.specs.Meaning.{AreRoots}
use Rattle.vz_refs.proofs.Keeping.{reached}
use Rattle.vz_surface_manager.specs.Kept_surfaces.{lasts, has_kept, AreKept, if_exists, root_of}
use Rattle.vz_surface_manager.proofs.{Set_owners.never, Filtered.filter_twice, Filtered.filter_mapped}
use Rattle.vz_rules.proofs.Remembered.{shown_in as shown_there}
use Rattle.std.proofs.lemmas.Bool.Decides.{nat_tests}

-- What is shown

-- a surface that is shown is set
pub shown_set : (w : World) (but : Option SurfaceId) (r : Referring) (shows : SurfaceRange → Option SurfaceId) → ((x : SurfaceRange) → shows x ≡ shown w x) → AreKept w but r
    → (x : SurfaceRange) → IfSome (shows x) (λ id. IsTrue (is_set r.sets id))
unfolding shown
shown_set w but r shows is h x = grind (arith, nat_tests, shown_there (active_frames w.subs) x)

-- Where reaching starts

-- where what is named now is named, those last that are temporary
lasts_plain : (d n k cl y : Bool) → (d ≡ false → k ≡ true → n ≡ true) → (((not d && not (n || k)) && not cl) && y) ≡ (((not d && not n) && not cl) && y)
lasts_plain d n k cl y f = grind (arith, nat_tests)

root_lists : (w : World) (o : Option SurfaceId) → option_to_list (if_exists w o) ≡ (elim o as (λ o. List SurfaceId) [ Some id ↦ cond (exists w id) (id ∷ []) [] | None ↦ [] ])
root_lists w None = refl
root_lists w (Some id) = grind (arith, nat_tests)

module _ (w : World) (r : Referring) (named : naming w ≡ w) (h : AreKept w None r) where
  plain : (c : Surface) → Contains w.surfaces c → lasts w c ≡ is_temporary w c
  unfolding lasts
  plain c m = grind (arith, nat_tests, lasts_plain c.destroyed c.named (is_named_now w c.id) (has_closed w c.client), named_after w)

  abbrev temporary_ids : List SurfaceId
  temporary_ids = map (λ (c : Surface). c.id) (filter (is_temporary w) w.surfaces)

  abbrev kept_ids : List SurfaceId
  kept_ids = map (λ (t : Temporary). t.id) r.temporary

  -- what is kept is temporary
  kept_there : (x : SurfaceId) → has_id kept_ids x ≡ true → has_id temporary_ids x ≡ true
  kept_there x e =
      let m = any_at (same_surface x) kept_ids e in
      let t = contains_map (λ (t : Temporary). t.id) r.temporary m.0 m.1 in
      let k = h.known t.0 t.1 in
      let kept : has_kept r.temporary k.0.id ≡ true = any_from (λ (t : Temporary). same_surface t.id k.0.id) r.temporary t.0 t.1 (ap (same_surface t.0.id) k.2 ∙ self_same t.0.id) in
      let last : is_temporary w k.0 ≡ true = sym (plain k.0 k.1) ∙ (sym (h.lasting k.0 k.1 refl) ∙ kept) in
      any_from (same_surface x) temporary_ids k.0.id
      (map_contains (λ (c : Surface). c.id) (filter (is_temporary w) w.surfaces) k.0 (filter_has (is_temporary w) w.surfaces k.0 k.1 last)) (ap (same_surface x) (k.2 ∙ t.2) ∙ m.2)

  -- what is temporary is kept
  kept_one : (x id : SurfaceId) (c : Surface) → Contains w.surfaces c → is_temporary w c ≡ true → c.id ≡ id → same_surface x id ≡ true → has_id kept_ids x ≡ true
  kept_one x id c m e is same =
      let a = any_at (λ (t : Temporary). same_surface t.id c.id) r.temporary (h.lasting c m refl ∙ (plain c m ∙ e)) in
      any_from (same_surface x) kept_ids a.0.id (map_contains (λ (t : Temporary). t.id) r.temporary a.0 a.1) (ap (same_surface x) (from_same a.0.id c.id a.2 ∙ is) ∙ same)

  there_kept : (x : SurfaceId) → has_id temporary_ids x ≡ true → has_id kept_ids x ≡ true
  there_kept x e =
      let m = any_at (same_surface x) temporary_ids e in
      let c = contains_map (λ (c : Surface). c.id) (filter (is_temporary w) w.surfaces) m.0 m.1 in
      let f = filter_at (is_temporary w) w.surfaces c.0 c.1 in
      kept_one x m.0 c.0 f.0 f.1 c.2 m.2

  pub roots_same : AreRoots w (root_of w) r.temporary
  unfolding starts roots
  roots_same x = grind (arith, nat_tests, list_any-append (same_surface x) (option_to_list (root_of w)), root_lists w w.root, same_tests, kept_there x, there_kept x, with_added (root_list w))

  -- the least list over what is shown is what is reached
  pub marked_reached : (shows : SurfaceRange → Option SurfaceId) (ids : List SurfaceId) → ((x : SurfaceRange) → shows x ≡ shown w x)
      → IsLeastClosed same_surface (next_in shows r.sets) (starts (root_of w) r.temporary) ids → (id : SurfaceId) → has_id ids id ≡ has_id (reach w) id
  marked_reached shows ids is least id =
      reached w r.sets r.temporary (root_of w) ids (reach_is_least w) h.sets roots_same
      (subst (λ (f : SurfaceRange → Option SurfaceId). IsLeastClosed same_surface (next_in f r.sets) (starts (root_of w) r.temporary) ids) (λ i x. is x i) least) id

  -- what is kept is reached, and so not lost
  pub lost_not_kept : (c : Surface) → Contains (lost_in w) c → has_kept r.temporary c.id ≡ false
  unfolding lost_in roots
  lost_not_kept c m =
      let f = filter_at (is_lost (reach w)) w.surfaces c m in
      let apart = (and_parts (c.marked && not c.destroyed) (not (has_id (reach w) c.id)) f.1).1 in
      never (has_kept r.temporary c.id) (λ e.
      let last : is_temporary w c ≡ true = sym (plain c f.0) ∙ (sym (h.lasting c f.0 refl) ∙ e) in
      let here = any_from (same_surface c.id) temporary_ids c.id (map_contains (λ (c : Surface). c.id) (filter (is_temporary w) w.surfaces) c (filter_has (is_temporary w) w.surfaces c f.0 last)) (self_same c.id) in
      let starts_there : has_id (roots w) c.id ≡ true = with_added (root_list w) temporary_ids c.id ∙ or_right (has_id (root_list w) c.id) (has_id temporary_ids c.id) here in
      let kept : has_id (reach w) c.id ≡ true = (reach_is_least w).has_roots c.id starts_there in
      both_ways (not (has_id (reach w) c.id)) (ap not kept) apart)

-- Which are lost

-- a list of what is reached tells which are lost
pub lost_by : (w : World) (ids : List SurfaceId) → ((id : SurfaceId) → has_id ids id ≡ has_id (reach w) id) → lost_in w ≡ filter (is_lost ids) w.surfaces
unfolding lost_in
lost_by w ids same = ap (λ (p : Surface → Bool). filter p w.surfaces) (λ i c. c.marked && not c.destroyed && not (sym (same c.id) i))

tests_turned : (a m d k : Bool) → (((m && not d) && not k) && a) ≡ (((a && m) && not d) && not k)
tests_turned a m d k = grind (arith, nat_tests)

-- of the marked surfaces of a client those are lost that the list has not
pub lost_of_client : (w : World) (ids : List SurfaceId) (c : ℕ) → ((id : SurfaceId) → has_id ids id ≡ has_id (reach w) id)
    → map (λ (s : Surface). s.id) (filter (λ (s : Surface). s.client == c) (lost_in w))
    ≡ filter (λ id. not (has_id ids id)) (map (λ (s : Surface). s.id) (filter (λ (s : Surface). (s.client == c) && s.marked && not s.destroyed) w.surfaces))
lost_of_client w ids c same =
    ap (λ l. map (λ (s : Surface). s.id) (filter (λ (s : Surface). s.client == c) l)) (lost_by w ids same)
    ∙ (ap (map (λ (s : Surface). s.id))
    (filter_twice (λ (s : Surface). s.client == c) (is_lost ids) w.surfaces
    ∙ (ap (λ (p : Surface → Bool). filter p w.surfaces) (λ i s. tests_turned (s.client == c) s.marked s.destroyed (has_id ids s.id) i)
    ∙ sym (filter_twice (λ (s : Surface). not (has_id ids s.id)) (λ (s : Surface). (s.client == c) && s.marked && not s.destroyed) w.surfaces)))
    ∙ sym (filter_mapped (λ id. not (has_id ids id)) (λ (s : Surface). s.id) (filter (λ (s : Surface). (s.client == c) && s.marked && not s.destroyed) w.surfaces)))
