-- What is kept, as a surface is destroyed.
use Rattle.std.proofs.Common.{◌≡◌, ◌+◌, Bool, true, false, ◌&&◌, ◌⊎◌, inl, inr, Option, None, List, [], ◌∷◌, map, filter, refl, ap, sym, ◌∙◌, subst, cond, Contains, arith}
use Rattle.std.specs.List.{list_any}
use Rattle.std.proofs.{lemmas.Bool.and_parts, lemmas.Bool.and_from, lemmas.Bool.both_ways, lemmas.Bool.Decides.nat_tests}
use Rattle.vz_base.specs.declared.limits.TheConstants.{TEMPORARY_TICKS}
use Rattle.vz_ids.specs.{declared.SurfaceId.SurfaceId, Ids.same_surface}
use Rattle.vz_rules.specs.World.{World, Surface, Submission, FrameData, is_waiting, is_active, is_on, active_frames, frame_on}
use Rattle.vz_rules.specs.{Reach.names, Reach.is_named_now, Reach.naming, Reach.drop_on, Singly.as_one_goes, Singly.going, Kept.stands_in}
use Rattle.vz_rules.proofs.Reached.{from_same}
use Rattle.vz_rules.proofs.Members.{contains_map, map_contains, any_at, any_from, filter_has}
use Rattle.vz_rules.proofs.Kept_reach.{AllNamed, named_is, named_after, naming_stays, stands_back}
use Rattle.vz_refs.specs.Referring.{Temporary}
use Rattle.vz_refs.specs.Referring.{Referring, removing}
use Rattle.vz_refs.specs.Meaning.{references_of}
use Rattle.vz_refs.proofs.Keeping.{removed_ranges, removed_has}
use Rattle.vz_surface_manager.specs.Kept_surfaces.{lasts, is_one, has_kept, names_it, AreNoted, IsKeptFor, AreKept}
use Rattle.vz_surface_manager.proofs.Set_owners.{never, other_way, own_removing}
use Rattle.vz_surface_manager.proofs.{Risen_one.active_cons, Risen_one.seen_as, Risen_one.seen_inactive, Risen_one.seen_off, Risen_kept.frame_of}

-- what a submission is as a surface is destroyed
pub data Drops (id : SurfaceId) (s : Submission) (r : Submission) : Type 0 where
  IsDropped : is_on id s ≡ true → is_active r ≡ false → is_waiting r ≡ false → r.submitted ≡ s.submitted → Drops id s r
  IsLeft : (is_active s ≡ true → is_on id s ≡ false) → r ≡ s → Drops id s r

drops : (d : Surface) (s : Submission) → Drops d.id s (drop_on (d ∷ []) s)
drops d s = grind (arith, nat_tests, both_ways (is_active s))

goes_id : (d x : Surface) (t : Bool) → (cond t (record x { destroyed = true }) x).id ≡ x.id
goes_id d x t = grind (arith, nat_tests)

goes_born : (x : Surface) (t : Bool) → (cond t (record x { destroyed = true }) x).born ≡ x.born
goes_born x t = grind (arith, nat_tests)

goes_named : (x : Surface) (t : Bool) → (cond t (record x { destroyed = true }) x).named ≡ x.named
goes_named x t = grind (arith, nat_tests)

goes_stands : (x : Surface) (t : Bool) → (cond t (record x { destroyed = true }) x).destroyed ≡ false → (t ≡ false) × (x.destroyed ≡ false)
goes_stands x t e = grind (arith, nat_tests)

goes_gone : (x : Surface) (t : Bool) → x.destroyed ≡ true → (cond t (record x { destroyed = true }) x).destroyed ≡ true
goes_gone x t e = grind (arith, nat_tests)

module _ (w : World) (d : Surface) (r : Referring) (all : AllNamed w) (away : has_kept r.temporary d.id ≡ false) (h : AreKept w None r) where
  abbrev after : World
  after = going d w

  abbrev is_it : Surface → Bool
  is_it x = same_surface x.id d.id

  -- Frames

  gone_step : (q : SurfaceId) (s t : Submission) (a b : Option FrameData) → same_surface d.id q ≡ true → Drops d.id s t → a ≡ None → seen_as q (is_active t) t.submitted a ≡ None
  gone_step q s t a b e (IsDropped on off rests is) f = seen_inactive q (is_active t) t.submitted a off ∙ f
  gone_step q s t a b e (IsLeft clear is) f = grind (arith, nat_tests, seen_off q (is_active t) t.submitted a, from_same d.id q e)

  left_step : (q : SurfaceId) (s t : Submission) (a b : Option FrameData) → same_surface d.id q ≡ false → Drops d.id s t → a ≡ b
      → seen_as q (is_active t) t.submitted a ≡ seen_as q (is_active s) s.submitted b
  left_step q s t a b e (IsDropped on off rests is) f = grind (arith, nat_tests, seen_inactive, seen_off, from_same)
  left_step q s t a b e (IsLeft clear is) f = ap (λ (y : Submission). seen_as q (is_active y) y.submitted a) is ∙ ap (seen_as q (is_active s) s.submitted) f

  frames_gone : (q : SurfaceId) (ss : List Submission) → same_surface d.id q ≡ true → frame_on q (active_frames (map (drop_on (d ∷ [])) ss)) ≡ None
  frames_gone q [] e = refl
  frames_gone q (s ∷ ss) e = grind (arith, nat_tests, active_cons q (drop_on (d ∷ []) s) (map (drop_on (d ∷ [])) ss), gone_step q s (drop_on (d ∷ []) s), frames_gone q ss e)

  frames_left : (q : SurfaceId) (ss : List Submission) → same_surface d.id q ≡ false → frame_on q (active_frames (map (drop_on (d ∷ [])) ss)) ≡ frame_on q (active_frames ss)
  frames_left q [] e = refl
  frames_left q (s ∷ ss) e =
      active_cons q (drop_on (d ∷ []) s) (map (drop_on (d ∷ [])) ss) ∙ (left_step q s (drop_on (d ∷ []) s) _ _ e (drops d s) (frames_left q ss e) ∙ sym (active_cons q s ss))

  frame_after : (q : SurfaceId) → frame_on q (active_frames after.subs) ≡ cond (same_surface d.id q) None (frame_on q (active_frames w.subs))
  unfolding going
  frame_after q = grind (arith, nat_tests, frames_gone q w.subs, frames_left q w.subs)

  subs_from : (s : Submission) → Contains after.subs s → (t : Submission) × Contains w.subs t × Drops d.id t s
  unfolding going
  subs_from s m = let x = contains_map (drop_on (d ∷ [])) w.subs s m in (x.0, x.1, subst (Drops d.id x.0) x.2 (drops d x.0))

  -- what is active stayed
  still_active : (s t : Submission) → Drops d.id t s → is_active s ≡ true → (s ≡ t) × (is_on d.id t ≡ false)
  still_active s t (IsDropped on off rests is) a = absurd (both_ways (is_active s) off a)
  still_active s t (IsLeft clear is) a = (is, clear (ap is_active (sym is) ∙ a))

  still_waits : (s t : Submission) → Drops d.id t s → is_waiting s ≡ true → s ≡ t
  still_waits s t (IsDropped on off rests is) a = absurd (both_ways (is_waiting s) rests a)
  still_waits s t (IsLeft clear is) a = is

  frames_in : (i : FrameData) → Contains (active_frames after.subs) i → Contains (active_frames w.subs) i × (same_surface d.id i.id ≡ false)
  frames_in i m =
      let s = frame_of after.subs i m in
      let t = subs_from s.0 s.1 in
      let same = still_active s.0 t.0 t.2 s.2 in
      let here : Contains (active_frames w.subs) s.0.submitted =
      map_contains (λ (x : Submission). x.submitted) (filter is_active w.subs) s.0 (filter_has is_active w.subs s.0 (subst (Contains w.subs) (sym same.0) t.1) s.2)
      in (
        subst (Contains (active_frames w.subs)) s.3 here,
        other_way i.id d.id (ap (λ (j : FrameData). same_surface j.id d.id) (sym s.3) ∙ (ap (λ (y : Submission). same_surface y.submitted.id d.id) same.0 ∙ same.1)),
      )

  -- Names

  surfaces_from : (x : Surface) → Contains after.surfaces x → (y : Surface) × Contains w.surfaces y × (as_one_goes d y ≡ x)
  unfolding going
  surfaces_from x m = contains_map (as_one_goes d) w.surfaces x m

  goes_in : (x : Surface) → Contains w.surfaces x → Contains after.surfaces (as_one_goes d x)
  unfolding going
  goes_in x m = map_contains (as_one_goes d) w.surfaces x m

  stands_less : (i : SurfaceId) → stands_in after.surfaces i ≡ true → stands_in w.surfaces i ≡ true
  unfolding going
  stands_less i e = stands_back (as_one_goes d) w.surfaces i (λ x. goes_id d x (is_it x)) (λ x k. (goes_stands x (is_it x) k).1) e

  named_less : (id : SurfaceId) → is_named_now after id ≡ true → is_named_now w id ≡ true
  named_less id e =
      let i = any_at (λ (j : FrameData). stands_in after.surfaces j.id && list_any (names id) j.frame.metadata.references) (active_frames after.subs) (sym (named_is after id) ∙ e) in
      let both = and_parts (stands_in after.surfaces i.0.id) (list_any (names id) i.0.frame.metadata.references) i.2 in
      named_is w id
      ∙ any_from (λ (j : FrameData). stands_in w.surfaces j.id && list_any (names id) j.frame.metadata.references) (active_frames w.subs) i.0 (frames_in i.0 i.1).0
      (and_from (stands_in w.surfaces i.0.id) (list_any (names id) i.0.frame.metadata.references) (stands_less i.0.id both.0) both.1)

  -- Surfaces

  lasts_left : (x : Surface) → Contains w.surfaces x → lasts after x ≡ lasts w x
  unfolding lasts going
  lasts_left x m = grind (arith, nat_tests, never (is_named_now w x.id), both_ways x.named, never, both_ways (is_named_now w x.id), named_less x.id)

  lasts_gone : (x : Surface) → lasts after (record x { destroyed = true }) ≡ false
  unfolding lasts
  lasts_gone x = refl

  lasting_after : (x : Surface) → Contains after.surfaces x → has_kept r.temporary x.id ≡ lasts after x
  lasting_after x m = grind (arith, nat_tests, surfaces_from x m, from_same, lasts_gone, lasts_left)

  known_after : (t : Temporary) → Contains r.temporary t → IsKeptFor after.surfaces t
  known_after t m =
      let k = h.known t m in
      (as_one_goes d k.0, goes_in k.0 k.1, goes_id d k.0 (is_it k.0) ∙ k.2, k.3 ∙ ap (λ n. n + TEMPORARY_TICKS) (sym (goes_born k.0 (is_it k.0))))

  abbrev Noted : Surface → Type 0
  Noted x = (x.named ≡ true) ⊎ (x.destroyed ≡ true) ⊎ (is_one None x.id ≡ true)

  noted_one : (x : Surface) → Noted x → Noted (as_one_goes d x)
  noted_one x (inl a) = inl (goes_named x (is_it x) ∙ a)
  noted_one x (inr (inl b)) = inr (inl (goes_gone x (is_it x) b))
  noted_one x (inr (inr o)) = absurd (cc)

  noted_after : AreNoted after None
  noted_after s t x p q m a b on n =
      let u = subs_from s p in
      let v = subs_from t q in
      let y = surfaces_from x m in
      let su = (still_active s u.0 u.2 a).0 in
      let tv = still_waits t v.0 v.2 b in
      let id : x.id ≡ y.0.id = ap (λ (z : Surface). z.id) (sym y.2) ∙ goes_id d y.0 (is_it y.0) in
      subst Noted y.2
      (noted_one y.0 (h.noted s t y.0 (subst (Contains w.subs) (sym su) u.1) (subst (Contains w.subs) (sym tv) v.1) y.1 a b on (ap (λ (i : SurfaceId). names_it i s) (sym id) ∙ n)))

  references_by : (t : Bool) (o : Option FrameData) → cond t [] (references_of o) ≡ references_of (cond t None o)
  references_by t o = grind (arith, nat_tests)

  pub kept_going : AreKept after None (record r { sets = removing d.id r.sets })
  kept_going = grind (arith, nat_tests, removed_ranges, references_by, frame_after, own_removing, frames_in, removed_has, and_from, lasting_after, known_after, noted_after)

  all_after : AllNamed after
  all_after x m e k =
      let y = surfaces_from x m in
      let stays = goes_stands y.0 (is_it y.0) (ap (λ (z : Surface). z.destroyed) y.2 ∙ e) in
      let id : y.0.id ≡ x.id = sym (goes_id d y.0 (is_it y.0)) ∙ ap (λ (z : Surface). z.id) y.2 in
      ap (λ (z : Surface). z.named) (sym y.2)
      ∙ (goes_named y.0 (is_it y.0) ∙ all y.0 y.1 stays.1 (named_less y.0.id (ap (is_named_now after) id ∙ k)))

  pub named_going : naming after ≡ after
  named_going = naming_stays after all_after

-- where all that is named now was named
pub going_both : (w : World) (d : Surface) (r : Referring) → naming w ≡ w → has_kept r.temporary d.id ≡ false → AreKept w None r
    → AreKept (going d w) None (record r { sets = removing d.id r.sets }) × (naming (going d w) ≡ going d w)
going_both w d r named away h = let all = subst AllNamed named (named_after w) in (kept_going w d r all away h, named_going w d r all away h)
