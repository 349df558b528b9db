-- The surface that a submission creates is new still, once all that follows became active.
use Rattle.std.proofs.Common.{◌≡◌, ℕ, zero, suc, ◌+◌, Bool, true, false, not, ◌&&◌, ◌==◌, Some, None, [], ◌∷◌, ◌++◌, map, count_by}
use Rattle.std.proofs.Common.{refl, ap, sym, ◌∙◌, subst, cond, Contains}
use Rattle.std.specs.List.{list_any}
use Rattle.std.proofs.lemmas.Bool.{and_parts, both_ways, eqb-true}
use Rattle.vz_base.specs.declared.limits.TheConstants.{TEMPORARY_TICKS}
use Rattle.vz_ids.specs.{declared.LocalSurfaceId.LocalSurfaceId, declared.SurfaceId.SurfaceId, Ids.same_surface}
use Rattle.vz_frame.specs.{declared.frame.CompositorFrame.CompositorFrame, Frame.frame_size}
use Rattle.vz_rules.specs.World.{World, Client, Surface, FrameData, last_created}
use Rattle.vz_rules.specs.Settle.{is_before, marked_by, ready, round, rounds, settle}
use Rattle.vz_rules.specs.Reach.{is_named_now, has_closed, name_one, naming}
use Rattle.vz_rules.specs.{Messages.accepted, Messages.id_of, Messages.is_last, Messages.with_surface, Kept.KeepsClients, Kept.stands_in}
use Rattle.vz_rules.proofs.Members.{map_contains, push_contains_last, any_at, any_map, found}
use Rattle.vz_rules.proofs.{Kept_submits.one_of_number, Kept_reach.named_after, Kept_reach.naming_stays}
use Rattle.vz_surface_manager.proofs.{Accepted_kept.same_named, Quiet_changes.same_closed, Quiet_changes.closes_submitting, Set_owners.never}
use Rattle.vz_surface_manager.specs.Changes.{IsNew}
use Rattle.vz_manager.specs.{declared.outcome.New.New, Submitted.created_by}

-- a surface of this id was created in this tick by a client that is not closed; it exists, and nothing named it
record IsFresh (w : World) (id : SurfaceId) (c : Surface) : Type 0 where
  known : Contains w.surfaces c
  name : c.id ≡ id
  born : c.born ≡ w.tick
  exists : c.destroyed ≡ false
  stays : has_closed w c.client ≡ false
  unnamed : c.named ≡ false

-- Rounds

fresh_by : (t : Bool) (w v : World) (id : SurfaceId) (c : Surface) → IsFresh w id c → v.tick ≡ w.tick → v.clients ≡ w.clients
    → Contains v.surfaces (cond t (record c { marked = true }) c) → IsFresh v id (cond t (record c { marked = true }) c)
fresh_by true w v id c h tick clients m =
    record {
      known = m;
      name = h.name;
      born = h.born ∙ sym tick;
      exists = h.exists;
      stays = ap (list_any (λ (x : Client). (x.number == c.client) && x.closed)) clients ∙ h.stays;
      unnamed = h.unnamed;
    }
fresh_by false w v id c h tick clients m =
    record {
      known = m;
      name = h.name;
      born = h.born ∙ sym tick;
      exists = h.exists;
      stays = ap (list_any (λ (x : Client). (x.number == c.client) && x.closed)) clients ∙ h.stays;
      unnamed = h.unnamed;
    }

fresh_round : (w : World) (id : SurfaceId) (c : Surface) → IsFresh w id c → IsFresh (round w) id (marked_by w.surfaces (ready w) c)
unfolding round
fresh_round w id c h =
    fresh_by (list_any (is_before w.surfaces c) (ready w)) w (round w) id c h refl refl
    (map_contains (marked_by w.surfaces (ready w)) w.surfaces c h.known)

fresh_rounds : (n : ℕ) (w : World) (id : SurfaceId) (c : Surface) → IsFresh w id c → (d : Surface) × IsFresh (rounds n w) id d
unfolding rounds
fresh_rounds zero w id c h = (c, h)
fresh_rounds (suc n) w id c h = fresh_rounds n (round w) id (marked_by w.surfaces (ready w) c) (fresh_round w id c h)

fresh_settled : (w : World) (id : SurfaceId) (c : Surface) → IsFresh w id c → (d : Surface) × IsFresh (settle w) id d
unfolding settle
fresh_settled w id c h = fresh_rounds _ w id c h

-- Names

one_id : (t : Bool) (c : Surface) → (cond t (record c { named = true }) c).id ≡ c.id
one_id true c = refl
one_id false c = refl

one_gone : (t : Bool) (c : Surface) → (cond t (record c { named = true }) c).destroyed ≡ c.destroyed
one_gone true c = refl
one_gone false c = refl

-- noting names leaves which surfaces stand
stands_named : (w : World) (id : SurfaceId) → stands_in (map (name_one w) w.surfaces) id ≡ stands_in w.surfaces id
stands_named w id =
    found (λ (s : Surface). same_surface s.id id && not s.destroyed) (map (name_one w) w.surfaces)
    ∙ (any_map (name_one w) (λ (s : Surface). same_surface s.id id && not s.destroyed)
    (λ (s : Surface). same_surface s.id id && not s.destroyed) w.surfaces stands_test
    ∙ sym (found (λ (s : Surface). same_surface s.id id && not s.destroyed) w.surfaces))
  where
    stands_test : (c : Surface)
        → (same_surface (name_one w c).id id && not (name_one w c).destroyed) ≡ (same_surface c.id id && not c.destroyed)
    stands_test c =
        ap (λ i. same_surface i id && not (name_one w c).destroyed) (one_id (not c.destroyed && is_named_now w c.id) c)
        ∙ ap (λ d. same_surface c.id id && not d) (one_gone (not c.destroyed && is_named_now w c.id) c)

-- and so what is named now
named_named : (w : World) (id : SurfaceId) → is_named_now (naming w) id ≡ is_named_now w id
unfolding naming
named_named w id = same_named w (naming w) id refl (λ (i : FrameData) c. stands_named w i.id)

tick_named : (w : World) → (naming w).tick ≡ w.tick
unfolding naming
tick_named w = refl

closed_named : (w : World) (q : ℕ) → has_closed (naming w) q ≡ has_closed w q
unfolding naming
closed_named w q = refl

-- a fresh surface is new, once what is named now is named
new_by : (t : Bool) (w : World) (id : SurfaceId) (c : Surface) → (not c.destroyed && is_named_now w c.id) ≡ t → IsFresh w id c
    → Contains (naming w).surfaces (cond t (record c { named = true }) c) → IsNew (naming w) (cond t (record c { named = true }) c) id
new_by true w id c e h m =
    record {
      named = naming_stays (naming w) (named_after w);
      known = m;
      name = h.name;
      born = h.born ∙ sym (tick_named w);
      exists = h.exists;
      stays = closed_named w c.client ∙ h.stays;
      now = λ n. named_named w c.id ∙ (and_parts (not c.destroyed) (is_named_now w c.id) e).1;
    }
new_by false w id c e h m =
    record {
      named = naming_stays (naming w) (named_after w);
      known = m;
      name = h.name;
      born = h.born ∙ sym (tick_named w);
      exists = h.exists;
      stays = closed_named w c.client ∙ h.stays;
      now = λ n. absurd (both_ways c.named h.unnamed n);
    }

named_there : (w : World) (c : Surface) → Contains w.surfaces c → Contains (naming w).surfaces (name_one w c)
unfolding naming
named_there w c m = map_contains (name_one w) w.surfaces c m

fresh_new : (w : World) (id : SurfaceId) (c : Surface) → IsFresh w id c → (d : Surface) × IsNew (naming w) d id
fresh_new w id c h = (
  name_one w c,
  new_by (not c.destroyed && is_named_now w c.id) w id c refl h (named_there w c h.known),
)

-- The acceptance

-- the client of a number is not closed
open_one : (w : World) (x : Client) → KeepsClients w.clients → Contains w.clients x → x.closed ≡ false → has_closed w x.number ≡ false
open_one w x keeps there stays =
    never (has_closed w x.number) (λ e.
    let y = any_at (λ (z : Client). (z.number == x.number) && z.closed) w.clients e in
    let both = and_parts (y.0.number == x.number) y.0.closed y.2 in
    let same : y.0 ≡ x = one_of_number w.clients y.0 x keeps y.1 there (eqb-true y.0.number x.number both.0) in
    both_ways x.closed stays (ap (λ (z : Client). z.closed) (sym same) ∙ both.1))

module _ (w : World) (x : Client) (local : LocalSurfaceId) (frame : CompositorFrame) where
  abbrev after : World
  after = (accepted w x local frame).world

  tick_after : after.tick ≡ w.tick
  unfolding accepted
  tick_after = refl

  closed_after : (q : ℕ) → has_closed after q ≡ has_closed w q
  unfolding accepted
  closed_after = same_closed _ w after refl (closes_submitting w frame x.number)

  -- the surface that is created
  abbrev made : Surface
  made =
      record {
        client = x.number;
        number = count_by (λ (s : Surface). s.client == x.number) w.surfaces + 1;
        id = id_of x local;
        size = frame_size frame;
        born = w.tick;
        named = false;
        marked = false;
        destroyed = false;
      }

  more_surfaces : is_last (last_created w x.number) local ≡ false → after.surfaces ≡ w.surfaces ++ made ∷ []
  unfolding accepted with_surface
  more_surfaces other = ap (λ t. cond t w.surfaces (w.surfaces ++ made ∷ [])) other

  made_fresh : is_last (last_created w x.number) local ≡ false → has_closed w x.number ≡ false → IsFresh after (id_of x local) made
  made_fresh other stays =
      record {
        known = subst (λ ss. Contains ss made) (sym (more_surfaces other)) (push_contains_last w.surfaces made);
        name = refl;
        born = sym tick_after;
        exists = refl;
        stays = closed_after x.number ∙ stays;
        unnamed = refl;
      }

  -- the surface that is created is new in the end
  made_new : is_last (last_created w x.number) local ≡ false → has_closed w x.number ≡ false
      → (d : Surface) × IsNew (naming (settle after)) d (id_of x local)
  made_new other stays =
      let settled = fresh_settled after (id_of x local) made (made_fresh other stays) in
      fresh_new (settle after) (id_of x local) settled.0 settled.1

-- what is created, by whether the id is that of the last surface
created_parts : (t : Bool) (new n : New) → cond t None (Some new) ≡ Some n → (t ≡ false) × (n ≡ new)
created_parts true new n e = absurd (cc)
created_parts false new n e = (refl, cc)

-- the surface that a submission creates is new in the end, and is kept for its time
pub created_new : (w : World) (x : Client) (local : LocalSurfaceId) (frame : CompositorFrame) (n : New) → KeepsClients w.clients
    → Contains w.clients x → x.closed ≡ false → created_by w x local ≡ Some n
    → (d : Surface) × IsNew (naming (settle (accepted w x local frame).world)) d n.id
    × (n.until ≡ (accepted w x local frame).world.tick + TEMPORARY_TICKS)
unfolding created_by
created_new w x local frame n keeps there stays e =
    let made : New = record { id = id_of x local; until = w.tick + TEMPORARY_TICKS } in
    let parts = created_parts (is_last (last_created w x.number) local) made n e in
    let new = made_new w x local frame parts.0 (open_one w x keeps there stays) in (
      new.0,
      subst (IsNew (naming (settle (accepted w x local frame).world)) new.0) (ap (λ (m : New). m.id) (sym parts.1)) new.1,
      ap (λ (m : New). m.until) parts.1 ∙ ap (λ t. t + TEMPORARY_TICKS) (sym (tick_after w x local frame)),
    )
