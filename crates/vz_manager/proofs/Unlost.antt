-- A change that leaves what reaching goes by: nothing is lost by it, so that no collection has to be asked.
use Rattle.std.proofs.Common.{◌≡◌, ℕ, ◌≤◌, Bool, true, false, not, ◌&&◌, Option, Some, None, is_some, List, [], map, filter_map}
use Rattle.std.proofs.Common.{length, refl, ap, sym, ◌∙◌, subst, cond, arith, Contains}
use Rattle.std.specs.Prelude.{nat_lt}
use Rattle.std.proofs.lemmas.Bool.{ltb-false}
use Rattle.vz_ids.specs.{declared.LocalSurfaceId.LocalSurfaceId, declared.SurfaceId.SurfaceId, declared.SurfaceRange.SurfaceRange}
use Rattle.vz_frame.specs.declared.frame.CompositorFrame.{CompositorFrame}
use Rattle.vz_rules.specs.{Plan.Plan, Scene.shown_frame, Scene.shown, Step.begin_answer, Kept.Keeps, Kept.stands_in}
use Rattle.vz_rules.specs.World.{World, Client, Surface, FrameData, active_frames, frame_on, last_created, is_active}
use Rattle.vz_rules.specs.Reach.{has_id, referenced, naming, name_one, roots, reach, is_lost, lost_in}
use Rattle.vz_rules.specs.Messages.{accepted, new_submission, with_surface, is_last, id_of}
use Rattle.vz_rules.proofs.{Reached.reach_is_least, Members.filter_none, Members.none_filtered}
use Rattle.vz_refs.specs.Referring.{Referring, Temporary, starts}
use Rattle.vz_surface_manager.specs.{Kept_surfaces.AreKept, Kept_surfaces.if_exists, Kept_surfaces.root_of, Acceptance.new_one}
use Rattle.vz_surface_manager.proofs.{Accepted_kept.same_named, Accepted_kept.frames_accepted, Rooted.roots_same, Rounded.none_long}
use Rattle.vz_manager.specs.{declared.outcome.New.New, Submitted.created_by}

-- a change leaves the active frames, the surfaces, the root, and which surfaces are temporary
pub record ReachesAlike (w u : World) (r s : Referring) : Type 0 where
  pub active : active_frames u.subs ≡ active_frames w.subs
  pub surfaces : u.surfaces ≡ w.surfaces
  pub root : u.root ≡ w.root
  pub before : AreKept w None r
  pub after : AreKept u None s
  pub temporary : s.temporary ≡ r.temporary

-- What is referenced

-- what a frame references, where ranges show this
abbrev listed : (SurfaceRange → Option SurfaceId) → Option FrameData → List SurfaceId
listed shows o = elim o [ Some i ↦ filter_map shows i.frame.metadata.references | None ↦ [] ]

shown_alike : (w u : World) → active_frames u.subs ≡ active_frames w.subs → shown u ≡ shown w
unfolding shown
shown_alike w u e = λ i range. elim (shown_frame (e i) range) as (λ o. Option SurfaceId) [ Some j ↦ Some j.id | None ↦ None ]

referenced_alike : (w u : World) (y : SurfaceId) → active_frames u.subs ≡ active_frames w.subs → referenced u y ≡ referenced w y
referenced_alike w u y e =
    ap (λ l. listed (shown u) (frame_on y l)) e ∙ ap (λ f. listed f (frame_on y (active_frames w.subs))) (shown_alike w u e)

-- Where reaching starts

root_alike : (w u : World) (o : Option SurfaceId) → u.surfaces ≡ w.surfaces → if_exists u o ≡ if_exists w o
root_alike w u None e = refl
root_alike w u (Some id) e = ap (λ ss. cond (stands_in ss id) (Some id) None) e

-- Whether it is lost

still_by : (m d a b : Bool) → (m && not d && not a) ≡ false → (a ≡ true → b ≡ true) → (m && not d && not b) ≡ false
still_by true true a b e f = refl
still_by true false true true e f = refl
still_by true false true false e f = let k : false ≡ true = f refl in absurd (cc)
still_by true false false b e f = absurd (cc)
still_by false d a b e f = refl

module _ (w u : World) (r s : Referring) (h : ReachesAlike w u r s) where
  -- what is named now is named still
  pub named_alike : naming w ≡ w → naming u ≡ u
  unfolding naming
  named_alike named =
      ap (λ l. record u { surfaces = l })
      (ap (λ (f : Surface → Surface). map f u.surfaces) (λ i c.
      cond (not c.destroyed && same_named w u c.id h.active (λ (j : FrameData) m. ap (λ l. stands_in l j.id) h.surfaces) i)
      (record c { named = true }) c)
      ∙ (ap (map (name_one w)) h.surfaces ∙ (ap (λ (x : World). x.surfaces) named ∙ sym h.surfaces)))

  starts_alike : starts (root_of u) s.temporary ≡ starts (root_of w) r.temporary
  starts_alike =
      ap (λ (o : Option SurfaceId). starts o s.temporary) (ap (λ o. if_exists u o) h.root ∙ root_alike w u w.root h.surfaces)
      ∙ ap (starts (root_of w)) h.temporary

  -- what was reached is reached still
  reached_alike : naming w ≡ w → (x : SurfaceId) → has_id (reach w) x ≡ true → has_id (reach u) x ≡ true
  reached_alike named x e =
      let same : (z : SurfaceId) → has_id (roots u) z ≡ has_id (roots w) z = λ z.
      sym (roots_same u s (named_alike named) h.after z)
      ∙ (ap (λ l. has_id l z) starts_alike ∙ roots_same w r named h.before z) in
      (reach_is_least w).least (reach u)
      (λ z p. (reach_is_least u).has_roots z (same z ∙ p))
      (λ y z p q. (reach_is_least u).closed y z p (ap (λ l. has_id l z) (referenced_alike w u y h.active) ∙ q)) x e

  lost_alike : naming w ≡ w → lost_in w ≡ [] → lost_in u ≡ []
  unfolding lost_in
  lost_alike named none =
      filter_none (is_lost (reach u)) u.surfaces (λ c p.
      still_by c.marked c.destroyed (has_id (reach w) c.id) (has_id (reach u) c.id)
      (none_filtered (is_lost (reach w)) w.surfaces c none (subst (λ l. Contains l c) h.surfaces p))
      (reached_alike named c.id))

  -- between steps nothing is lost, and so nothing is behind it
  pub none_lost : Keeps w → lost_in (naming u) ≡ []
  none_lost keeps = ap lost_in (named_alike keeps.all_named) ∙ lost_alike keeps.all_named keeps.none_lost

-- Where it is asked in any case

pub always_asked : (w : World) → true ≡ false → lost_in (naming w) ≡ []
always_asked w e = absurd (cc)

-- A begin-frame

-- where none is temporary before, none is after
none_temporary : (old new : List Temporary) → nat_lt 0 (length old) ≡ false → length new ≤ length old → new ≡ old
none_temporary old new none few =
    let least : length old ≤ 0 = ltb-false 0 (length old) none in
    none_long new (omega (arith, few, least)) ∙ sym (none_long old least)

-- where none is temporary, a begin-frame leaves what reaching goes by
pub begun_alike : (p : Plan) (w : World) (r s : Referring) (n : ℕ) → AreKept w None r → AreKept (begin_answer p w).world None s
    → length s.temporary ≤ length r.temporary → n ≡ length r.temporary → nat_lt 0 n ≡ false → ReachesAlike w (begin_answer p w).world r s
unfolding begin_answer
begun_alike p w r s n before after few count none =
    record {
      active = refl;
      surfaces = refl;
      root = refl;
      before = before;
      after = after;
      temporary = none_temporary r.temporary s.temporary (ap (nat_lt 0) (sym count) ∙ none) few;
    }

pub begun_unlost : (p : Plan) (w : World) (r s : Referring) (n : ℕ) → Keeps w → AreKept w None r → AreKept (begin_answer p w).world None s
    → length s.temporary ≤ length r.temporary → n ≡ length r.temporary → nat_lt 0 n ≡ false → lost_in (naming (begin_answer p w).world) ≡ []
begun_unlost p w r s n keeps before after few count none =
    none_lost w (begin_answer p w).world r s (begun_alike p w r s n before after few count none) keeps

-- A submission on a surface that is there

on_last_by : (t : Bool) (n : New) → is_some (cond t None (Some n)) ≡ false → t ≡ true
on_last_by true n e = refl
on_last_by false n e = absurd (cc)

-- where none is created, it is on the last one
on_last : (w : World) (x : Client) (local : LocalSurfaceId) → is_some (created_by w x local) ≡ false
    → is_last (last_created w x.number) local ≡ true
unfolding created_by
on_last w x local e = on_last_by (is_last (last_created w x.number) local) _ e

new_waits : (w : World) (x : Client) (local : LocalSurfaceId) (frame : CompositorFrame)
    → is_active (new_submission w x local frame) ≡ false
unfolding new_submission
new_waits w x local frame = refl

first_by : {A : Type 0} (t : Bool) (a b : A) → t ≡ true → cond t a b ≡ a
first_by true a b e = refl
first_by false a b e = absurd (cc)

pub arrived_unlost : (w : World) (x : Client) (local : LocalSurfaceId) (frame : CompositorFrame) (r s : Referring) → Keeps w
    → AreKept w None r → AreKept (accepted w x local frame).world (new_one w x local) s → s ≡ r
    → is_some (created_by w x local) ≡ false → lost_in (naming (accepted w x local frame).world) ≡ []
unfolding accepted with_surface
arrived_unlost w x local frame r s keeps before after same none =
    let last = on_last w x local none in
    none_lost w (accepted w x local frame).world r s
    (record {
      active = frames_accepted (id_of x local) (new_submission w x local frame) w.subs (new_waits w x local frame);
      surfaces = first_by (is_last (last_created w x.number) local) w.surfaces _ last;
      root = refl;
      before = before;
      after = subst (λ o. AreKept (accepted w x local frame).world o s)
          (first_by (is_last (last_created w x.number) local) None (Some (id_of x local)) last) after;
      temporary = ap (λ (k : Referring). k.temporary) same;
    }) keeps
