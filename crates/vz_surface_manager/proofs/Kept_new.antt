-- A new surface is kept, once all that follows became active.
use Rattle.std.proofs.Common.{◌≡◌, ◌+◌, Bool, true, false, not, ◌&&◌, ◌||◌, inl, inr, Option, Some, None, List, [], ◌∷◌, ◌++◌, refl, ap, sym, ◌∙◌, subst, cond, Contains, nat_lt, arith}
use Rattle.std.specs.List.{list_any}
use Rattle.std.proofs.{lemmas.Bool.and_parts, lemmas.Bool.and_from, lemmas.Bool.both_ways, lemmas.Bool.lt-ltb, lemmas.Bool.Decides.nat_tests}
use Rattle.vz_base.specs.declared.limits.TheConstants.{TEMPORARY_TICKS}
use Rattle.vz_ids.specs.{declared.SurfaceId.SurfaceId, Ids.same_surface}
use Rattle.vz_rules.specs.World.{World, Surface, FrameData, active_frames, frame_on}
use Rattle.vz_rules.specs.{Reach.names, Reach.is_named_now, Reach.naming, Reach.has_closed, Kept.KeepsAlways, Kept.stands_in}
use Rattle.vz_rules.proofs.{Reached.from_same, Reached.self_same, Kept_reach.AllNamed, Kept_reach.named_is, Kept_reach.named_after}
use Rattle.vz_rules.proofs.Members.{contains_push, any_at, any_from, find_at, same_tests}
use Rattle.vz_rules.proofs.Kept_facts.{active_seen}
use Rattle.vz_refs.specs.Referring.{Temporary}
use Rattle.vz_refs.specs.Referring.{Referring, Ranged, is_named_by, is_named_in, keeping}
use Rattle.vz_refs.specs.Meaning.{references_of}
use Rattle.vz_surface_manager.specs.Kept_surfaces.{lasts, has_kept, AreNoted, IsKeptFor, AreKept}
use Rattle.vz_surface_manager.proofs.{Risen_kept.frame_of, Accepted_kept.stands_active, New_surfaces.noted_all, Ticked_kept.one_surface}

kept_push : (kept : List Temporary) (t : Temporary) (q : SurfaceId) → has_kept (kept ++ t ∷ []) q ≡ (has_kept kept q || same_surface t.id q)
kept_push [] t q = grind (arith, nat_tests)
kept_push (x ∷ kept) t q = grind (arith, nat_tests, kept_push kept t q)

named_by_ranges : (id : SurfaceId) (o : Option FrameData) → list_any (names id) (references_of o) ≡ true → (i : FrameData) × (o ≡ Some i) × (list_any (names id) i.frame.metadata.references ≡ true)
named_by_ranges id None e = absurd (cc)
named_by_ranges id (Some i) e = (i, refl, e)

module _ (v : World) (but : Option SurfaceId) (r : Referring) (always : KeepsAlways v) (h : AreKept v but r) where
  from_sets : (id : SurfaceId) → is_named_in r.sets id ≡ true → is_named_now v id ≡ true
  unfolding is_named_in is_named_by
  from_sets id e =
      let s = any_at (λ (s : Ranged). list_any (names id) s.ranges) r.sets e in
      let same = sym (h.own s.0 s.1) ∙ h.sets s.0.id in
      let i = named_by_ranges id (frame_on s.0.id (active_frames v.subs)) (ap (list_any (names id)) (sym same) ∙ s.2) in
      let at = find_at (λ (j : FrameData). same_surface j.id s.0.id) (active_frames v.subs) i.0 i.1 in
      named_is v id
      ∙ any_from (λ (j : FrameData). stands_in v.surfaces j.id && list_any (names id) j.frame.metadata.references) (active_frames v.subs) i.0 at.0
      (and_from (stands_in v.surfaces i.0.id) (list_any (names id) i.0.frame.metadata.references) (stands_active v i.0 always at.0) i.2)

  to_sets : (id : SurfaceId) → is_named_now v id ≡ true → is_named_in r.sets id ≡ true
  unfolding is_named_in is_named_by
  to_sets id e =
      let i = any_at (λ (j : FrameData). stands_in v.surfaces j.id && list_any (names id) j.frame.metadata.references) (active_frames v.subs) (sym (named_is v id) ∙ e) in
      let both = and_parts (stands_in v.surfaces i.0.id) (list_any (names id) i.0.frame.metadata.references) i.2 in
      let s = frame_of v.subs i.0 i.1 in
      let seen : frame_on i.0.id (active_frames v.subs) ≡ Some i.0 =
      ap (λ (j : FrameData). frame_on j.id (active_frames v.subs)) (sym s.3) ∙ (active_seen v s.0 always s.1 s.2 ∙ ap (λ z. Some z) s.3)
      in
      let x = any_at (λ (y : Ranged). same_surface y.id i.0.id) r.sets (h.all_set i.0 i.1) in
      let ranges : x.0.ranges ≡ i.0.frame.metadata.references =
      sym (h.own x.0 x.1) ∙ (h.sets x.0.id ∙ (ap (λ q. references_of (frame_on q (active_frames v.subs))) (from_same x.0.id i.0.id x.2) ∙ ap references_of seen))
      in
      any_from (λ (y : Ranged). list_any (names id) y.ranges) r.sets x.0 x.1 (ap (list_any (names id)) ranges ∙ both.1)

  -- what is named in the sets is named now
  pub named_sets : (id : SurfaceId) → is_named_in r.sets id ≡ is_named_now v id
  named_sets id = same_tests (is_named_in r.sets id) (is_named_now v id) (from_sets id) (to_sets id)

-- a new surface lasts exactly where nothing names it
lasts_new : (d n k cl y : Bool) → d ≡ false → (n ≡ true → k ≡ true) → cl ≡ false → y ≡ true → (((not d && not (n || k)) && not cl) && y) ≡ not k
lasts_new true n k cl y a b c e = absurd (cc)
lasts_new false n k true y a b c e = absurd (cc)
lasts_new false n k false false a b c e = absurd (cc)
lasts_new false n true false true a b c e = grind (arith, nat_tests)
lasts_new false true false false true a b c e = absurd (both_ways false refl (b refl))
lasts_new false false false false true a b c e = refl

module _ (v : World) (c : Surface) (r : Referring) (always : KeepsAlways v) (all : naming v ≡ v) (there : Contains v.surfaces c) (born : c.born ≡ v.tick) (stands : c.destroyed ≡ false)
    (open_client : has_closed v c.client ≡ false) (unnamed : c.named ≡ true → is_named_now v c.id ≡ true) (h : AreKept v (Some c.id) r) where
  abbrev new : Temporary
  new = record { id = c.id; until = v.tick + TEMPORARY_TICKS }

  abbrev kept : List Temporary
  kept = keeping r.sets c.id (v.tick + TEMPORARY_TICKS) r.temporary

  kept_at : (q : SurfaceId) → has_kept kept q ≡ (has_kept r.temporary q || (not (is_named_now v c.id) && same_surface c.id q))
  unfolding keeping
  kept_at q = grind (arith, nat_tests, named_sets v (Some c.id) r always h c.id, kept_push r.temporary)

  young : nat_lt v.tick (c.born + TEMPORARY_TICKS) ≡ true
  young = ap (λ n. nat_lt v.tick (n + TEMPORARY_TICKS)) born ∙ lt-ltb v.tick (v.tick + TEMPORARY_TICKS) (omega arith)

  lasts_c : lasts v c ≡ not (is_named_now v c.id)
  unfolding lasts
  lasts_c = lasts_new c.destroyed c.named (is_named_now v c.id) (has_closed v c.client) (nat_lt v.tick (c.born + TEMPORARY_TICKS)) stands unnamed open_client young

  at_new : (b k t : Bool) → b ≡ false → t ≡ true → (b || (not k && t)) ≡ not k
  at_new b k t e f = grind (arith, nat_tests)

  at_old : (b k t : Bool) → t ≡ false → (b || (not k && t)) ≡ b
  at_old b k t f = grind (arith, nat_tests)

  lasting_new : (d : Surface) → Contains v.surfaces d → has_kept kept d.id ≡ lasts v d
  lasting_new d m = by (same_surface c.id d.id) refl
    where
      by : (t : Bool) → same_surface c.id d.id ≡ t → has_kept kept d.id ≡ lasts v d
      by true e =
          let same : c ≡ d = one_surface v c d always there m (from_same c.id d.id e) in
          subst (λ (x : Surface). has_kept kept x.id ≡ lasts v x) same
          (kept_at c.id
          ∙ (at_new (has_kept r.temporary c.id) (is_named_now v c.id) (same_surface c.id c.id) (h.fresh c there (self_same c.id)) (self_same c.id) ∙ sym lasts_c))
      by false e = kept_at d.id ∙ (at_old (has_kept r.temporary d.id) (is_named_now v c.id) (same_surface c.id d.id) e ∙ h.lasting d m e)

  known_new : (t : Temporary) → Contains kept t → IsKeptFor v.surfaces t
  unfolding keeping
  known_new t m = by (is_named_in r.sets c.id) m
    where
      by : (b : Bool) → Contains (cond b r.temporary (r.temporary ++ new ∷ [])) t → IsKeptFor v.surfaces t
      by true m = h.known t m
      by false m =
          elim (contains_push r.temporary new t m) [
            | inl o ↦ h.known t o
            | inr e ↦ subst (IsKeptFor v.surfaces) e (c, there, refl, ap (λ n. n + TEMPORARY_TICKS) (sym born))
          ]

  noted_new : AreNoted v None
  noted_new s t x p q m a b on n = grind (arith, nat_tests, noted_all v s x always (subst AllNamed all (named_after v)) p a m n, named_after v)

  pub kept_new : AreKept v None (record r { temporary = kept })
  kept_new = grind (arith, nat_tests, lasting_new, known_new, noted_new)
