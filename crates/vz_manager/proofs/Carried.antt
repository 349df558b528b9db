-- The parts carry on: as room is made for a submission, as it is given back for want of memory, and as it is accepted and all that
-- follows is done.
use Rattle.std.proofs.Common.{◌≡◌, ℕ, ◌+◌, ◌≤◌, Bool, true, false, ◌==◌, Option, Some, None, is_some, List, []}
use Rattle.std.proofs.Common.{length, refl, ap, sym, ◌∙◌, subst, arith, cond}
use Rattle.std.specs.Option.{option_map}
use Rattle.std.specs.Prelude.{IsTrue, OnErr, Result, Ok, Err}
use Rattle.std.proofs.lemmas.List.{length-map}
use Rattle.vz_base.specs.declared.limits.TheConstants.{TEMPORARY_TICKS}
use Rattle.vz_geom.specs.declared.Size.{Size}
use Rattle.vz_ids.specs.{declared.LocalSurfaceId.LocalSurfaceId, declared.SurfaceId.SurfaceId, declared.Sub.Sub}
use Rattle.vz_frame.specs.{declared.frame.CompositorFrame.CompositorFrame, Roomy.Roomy}
use Rattle.vz_rules.specs.declared.entry.Event.TheVariants as event
use Rattle.vz_rules.specs.declared.entry.Fed.{Fed}
use Rattle.vz_rules.specs.declared.entry.Reply.TheVariants as reply
use Rattle.vz_rules.specs.{declared.entry.Returned.Returned, Plan.Plan, World.World, World.Client, World.last_created, Step.outcome_of, Step.step_in}
use Rattle.vz_rules.specs.Messages.{took, submitting, accepted, is_last, id_of}
use Rattle.vz_refs.specs.Referring.{Referring}
use Rattle.vz_returns.specs.Lent.{NoneReleased, resources_out}
use Rattle.vz_returns.proofs.Lent_rooms.{roomier_out}
use Rattle.vz_surface_manager.specs.{Flown.Flown, Flown.subs_of, Flown.AreFlown, declared.surface_manager.SurfaceManager.SurfaceManager}
use Rattle.vz_machine.specs.declared.machine.Step.{Step}
use Rattle.vz_surface_manager.specs.declared.changes.Accepted.{Accepted}
use Rattle.vz_surface_manager.specs.{Frame_end.flying_count, Acceptance.IsReadier, Acceptance.new_one, Settles.AreSettling, Settles.IsToSettle}
use Rattle.vz_support.specs.Supporting.{Supported, IsSupport}
use Rattle.vz_manager.specs.{declared.outcome.Following.Following, Serving.Served, Serving.Serves, Serving.CanLand, Serving.IsStepOf}
use Rattle.vz_manager.specs.{declared.outcome.New.New, declared.arriving.Coming.Coming}
use Rattle.vz_manager.specs.Followed.{IsFollowed, IsWithin, IsBetween, CanFollow, new_id}
use Rattle.vz_manager.specs.Submitted.{IsAllowed, IsSubmitting, IsComing, IsTakingIn, IsAcceptedAs, HasTakenIn}
use Rattle.vz_manager.specs.Submitted.{HasRoomToSubmit, StillServe, created_by}
use Rattle.vz_manager.proofs.{Submits.is_submitting, Submits.there, Submits.answer, Rooming.can_follow}
use Rattle.vz_manager.proofs.{Arrived_new.created_new, Unlost.arrived_unlost, Stepped.followed_answer, Stepped.followed_flight, Stepped.serves_after}

-- Room

-- there is room for the end of the drawn frame, where that list only grows
still_lands : (s t : SurfaceManager) (size : Size) (support : Supported) (r q : Roomy Returned) (fed : Roomy Fed) (room : Bool) → IsReadier s.live t.live
    → q.list ≡ r.list → (IsTrue (is_some s.live.flight) → resources_out s.live.lent ≤ r.spare → resources_out s.live.lent ≤ q.spare)
    → CanLand (record { size = size; support = support; settling = s; returned = r; fed = fed; landed = room })
    → CanLand (record { size = size; support = support; settling = t; returned = q; fed = fed; landed = room })
still_lands s t size support r q fed room same list more h =
    record {
      none_returned = list ∙ h.none_returned;
      none_fed = h.none_fed;
      returned = λ flies.
          let before : IsTrue (is_some s.live.flight) = ap is_some (sym same.flight) ∙ flies in
          omega (arith, more before (h.returned before), roomier_out s.live.lent t.live.lent same.lent);
      fed = λ flies.
          let before : IsTrue (is_some s.live.flight) = ap is_some (sym same.flight) ∙ flies in
          omega (arith, h.fed before, ap flying_count same.flight);
      effects = λ flies. h.effects (ap is_some (sym same.flight) ∙ flies);
    }

-- the parts stand for the state still, where there may be more room
pub still_serve : (s t : SurfaceManager) (r q : Roomy Returned) → ((w : World) → AreSettling w None s → AreSettling w None t)
    → IsReadier s.live t.live
    → (NoneReleased s.live.lent → NoneReleased t.live.lent) → q.list ≡ r.list
    → (IsTrue (is_some s.live.flight) → resources_out s.live.lent ≤ r.spare → resources_out s.live.lent ≤ q.spare) → StillServe s r t q
still_serve s t r q stands same none list more p w size support fed room h =
    record {
      plan = h.plan;
      keeps = h.keeps;
      of_plan = h.of_plan;
      messages = h.messages;
      size = h.size;
      support = h.support;
      settling = stands w h.settling;
      released = none h.released;
      lands = still_lands s t size support r q fed room same list more h.lands;
    }

-- the list was left as it was
pub no_more : (s : SurfaceManager) (r q : Roomy Returned) → q ≡ r → IsTrue (is_some s.live.flight) → resources_out s.live.lent ≤ r.spare
    → resources_out s.live.lent ≤ q.spare
no_more s r q same flies room = omega (arith, room, ap (λ (l : Roomy Returned). l.spare) same)

-- there is room for a submission more
pub more_room : (s t : SurfaceManager) (listings : ℕ) (q : Roomy Returned) → IsReadier s.live t.live
    → (IsTrue (is_some t.live.flight) → resources_out t.live.lent + listings ≤ q.spare) → IsTrue (is_some s.live.flight)
    → resources_out s.live.lent ≤ q.spare
more_room s t listings q same made flies =
    omega (arith, made (ap is_some same.flight ∙ flies), roomier_out s.live.lent t.live.lent same.lent)

-- between steps nothing but the room changed
pub still_between : (w : World) (s t : SurfaceManager) → IsBetween w s → (AreSettling w None s → AreSettling w None t) → IsBetween w t
still_between w s t h stands = record { keeps = h.keeps; stands = stands h.stands }

-- Want of memory

-- what holds anyway holds where it is an error
pub on_err : {T E : Type 0} (r : Result T E) (P : Type 0) → P → OnErr r P
on_err (Ok x) P is = tt
on_err (Err e) P is = is

-- the submission was given back
pub serves_back : (p : Plan) (w : World) (v : Served) (support : Supported) (settling : SurfaceManager) → Serves p w v → IsSupport p w support
    → settling ≡ v.settling → Serves p w (record v { support = support; settling = settling })
serves_back p w v support settling h kept same =
    subst (λ s. Serves p w (record v { support = support; settling = s })) (sym same)
    (record {
      plan = h.plan;
      keeps = h.keeps;
      of_plan = h.of_plan;
      messages = h.messages;
      size = h.size;
      support = kept;
      settling = h.settling;
      released = h.released;
      lands = record {
        none_returned = h.lands.none_returned;
        none_fed = h.lands.none_fed;
        returned = h.lands.returned;
        fed = h.lands.fed;
        effects = h.lands.effects;
      };
    })

-- The acceptance

-- the new surface, where there is one
new_by : (t : Bool) (n : New) → option_map (λ (m : New). m.id) (cond t None (Some n)) ≡ cond t None (Some n.id)
new_by true n = refl
new_by false n = refl

created_id : (w : World) (x : Client) (local : LocalSurfaceId) → new_id (created_by w x local) ≡ new_one w x local
unfolding created_by
created_id w x local = new_by (is_last (last_created w x.number) local) (record { id = id_of x local; until = w.tick + TEMPORARY_TICKS })

clients_after : (w : World) (x : Client) (local : LocalSurfaceId) (frame : CompositorFrame)
    → length (accepted w x local frame).world.clients ≡ length w.clients
unfolding accepted
clients_after w x local frame = length-map w.clients (λ y. cond (y.number == x.number) (took (submitting w frame y)) y)

flight_after : (w : World) (x : Client) (local : LocalSurfaceId) (frame : CompositorFrame)
    → (accepted w x local frame).world.in_flight ≡ w.in_flight
unfolding accepted
flight_after w x local frame = refl

reply_after : (w : World) (x : Client) (local : LocalSurfaceId) (frame : CompositorFrame) (a : Accepted) → IsAcceptedAs w x local frame a
    → reply.Accepted a.sub.ordinal a.index ≡ (accepted w x local frame).reply
unfolding accepted
reply_after w x local frame a told = λ i. reply.Accepted (told.sub i).ordinal (told.index i)

-- one frame is drawn where the other is, of as many submissions
flies_back : (a b : Option (List Flown)) → option_map subs_of a ≡ option_map subs_of b → IsTrue (is_some b)
    → IsTrue (is_some a) × (flying_count b ≡ flying_count a)
flies_back None None e flies = absurd (cc)
flies_back None (Some b) e flies = absurd (cc)
flies_back (Some a) None e flies = absurd (cc)
flies_back (Some a) (Some b) e flies = (
  refl,
  sym (length-map b (λ (f : Flown). f.0)) ∙ (ap length (same_subs (subs_of b) (subs_of a) (sym e)) ∙ length-map a (λ (f : Flown). f.0)),
)
  where
    same_subs : (f g : List Sub) → ◌≡◌ {A = Option (List Sub)} (Some f) (Some g) → f ≡ g
    same_subs f g same = cc

-- room was made for a submission in a state for which the parts stand, and it was accepted
pub record HasArrived (p : Plan) (w : World) (c : ℕ) (x : Client) (local : LocalSurfaceId) (frame : CompositorFrame) (v : Served)
    (coming : Coming) (f : Following) (a : Accepted) (support : Supported) (settling : SurfaceManager) (ready : Roomy Sub) : Type 0 where
  pub serves : Serves p w v
  pub allowed : IsAllowed p w c x local frame
  pub comes : IsComing w x local frame coming
  pub room : HasRoomToSubmit c coming v.settling v.returned f
  pub accepted_as : IsAcceptedAs w x local frame a
  pub taken : HasTakenIn p w x local frame support settling ready.list
  pub within : IsWithin coming.listings v.settling settling (length ready.list)
  pub spare : f.activated.spare ≤ ready.spare + length ready.list
  pub kept : settling.live.kept ≡ v.settling.live.kept

-- it may be taken in
pub is_taking_in : (p : Plan) (w : World) (c : ℕ) (x : Client) (local : LocalSurfaceId) (frame : CompositorFrame) (v : Served)
    (coming : Coming) (f : Following) → Serves p w v → IsAllowed p w c x local frame → IsComing w x local frame coming
    → HasRoomToSubmit c coming v.settling v.returned f → IsTakingIn p w c x local frame coming v.support v.settling
is_taking_in p w c x local frame v coming f serves allowed comes room =
    record { submits = is_submitting p w c x local frame v serves allowed; comes = comes; live = room.live; waiting = room.waiting }

-- and then it has arrived
pub has_arrived : (p : Plan) (w : World) (c : ℕ) (x : Client) (local : LocalSurfaceId) (frame : CompositorFrame) (v : Served)
    (coming : Coming) (f : Following) (a : Accepted) (support : Supported) (settling : SurfaceManager) (ready : Roomy Sub) → Serves p w v
    → IsAllowed p w c x local frame → IsComing w x local frame coming → HasRoomToSubmit c coming v.settling v.returned f
    → IsAcceptedAs w x local frame a → HasTakenIn p w x local frame support settling ready.list
    → IsWithin coming.listings v.settling settling (length ready.list) → f.activated.spare ≤ ready.spare + length ready.list
    → settling.live.kept ≡ v.settling.live.kept → HasArrived p w c x local frame v coming f a support settling ready
has_arrived p w c x local frame v coming f a support settling ready serves allowed comes room told taken within spare kept =
    record {
      serves = serves;
      allowed = allowed;
      comes = comes;
      room = room;
      accepted_as = told;
      taken = taken;
      within = within;
      spare = spare;
      kept = kept;
    }

module _ (p : Plan) (w : World) (c : ℕ) (x : Client) (local : LocalSurfaceId) (frame : CompositorFrame) (v : Served) (coming : Coming)
    (f : Following) (a : Accepted) (support : Supported) (settling : SurfaceManager) (ready : Roomy Sub)
    (h : HasArrived p w c x local frame v coming f a support settling ready) where
  abbrev after : World
  after = (accepted w x local frame).world

  submits : IsSubmitting p w c x local frame v.support v.settling
  submits = is_submitting p w c x local frame v h.serves h.allowed

  -- what follows may begin
  pub arrived_follows : (root : Option SurfaceId) (anew : Bool) → root ≡ after.root → anew ≡ is_some coming.new
      → IsFollowed after root coming.new anew settling (record f { activated = ready })
  arrived_follows root anew of_root creates =
      record {
        settles = subst (λ o. IsToSettle after o settling ready.list) (sym (ap new_id h.comes.new ∙ created_id w x local)) h.taken.settles;
        of_root = of_root;
        few = omega (arith, clients_after w x local frame, h.serves.of_plan.files.as_many, h.serves.plan.few_files);
        is = λ n e.
            created_new w x local frame n h.serves.keeps.always.clients (there p w c x local frame v.support v.settling submits)
            h.allowed.sends.stays (sym h.comes.new ∙ e);
        unlost = λ e.
            arrived_unlost w x local frame v.settling.live.kept settling.live.kept h.serves.keeps h.serves.settling.live.kept
            h.taken.settles.stands.live.kept h.kept (ap is_some (sym h.comes.new) ∙ (sym creates ∙ e));
      }

  -- and there is room for it
  pub arrived_room : CanFollow coming.new settling (record f { activated = ready })
  arrived_room =
      can_follow coming.listings (length ready.list) coming.new v.settling settling f ready h.room.follows h.within
      (λ n e. omega (arith, h.room.keeps (ap is_some e), ap (λ (r : Referring). r.room) h.kept)) refl h.spare

  -- the step is that of the definitions
  pub arrived_step : (s : Step) → s.reply ≡ reply.Accepted a.sub.ordinal a.index
      → s.effects ≡ (outcome_of [] (accepted w x local frame)).effects → IsStepOf p w (event.Client c) s
  arrived_step s told follows =
      followed_answer p w (event.Client c) (accepted w x local frame) s (answer p w c x local frame v.support v.settling submits) refl
      (told ∙ reply_after w x local frame a h.accepted_as) follows

  -- there is room still for the end of the drawn frame
  arrived_lands : (u : World) (new : SurfaceManager) → AreFlown u new.live.flight → u.in_flight ≡ w.in_flight
      → resources_out new.live.lent ≤ resources_out settling.live.lent → CanLand (record v { support = support; settling = new })
  arrived_lands u new flown same out =
      let alike = flies_back v.settling.live.flight new.live.flight
      (sym h.serves.settling.live.flown.drawn ∙ (sym same ∙ flown.drawn)) in
      record {
        none_returned = h.serves.lands.none_returned;
        none_fed = h.serves.lands.none_fed;
        returned = λ flies. omega (arith, out, h.within.out, h.room.lands (alike flies).0);
        fed = λ flies. omega (arith, h.serves.lands.fed (alike flies).0, (alike flies).1);
        effects = λ flies. h.serves.lands.effects (alike flies).0;
      }

  -- and the parts stand for what it leaves
  pub arrived_serves : (new : SurfaceManager) → AreSettling (outcome_of [] (accepted w x local frame)).world None new → NoneReleased new.live.lent
      → resources_out new.live.lent ≤ resources_out settling.live.lent
      → Serves p (step_in p w (event.Client c)).world (record v { support = support; settling = new })
  arrived_serves new stands released out =
      let all = accepted w x local frame in
      serves_after p w (event.Client c) all v (record v { support = support; settling = new }) h.serves
      (answer p w c x local frame v.support v.settling submits) refl refl h.taken.kept stands released
      (arrived_lands (outcome_of [] all).world new stands.live.flown (followed_flight all ∙ flight_after w x local frame) out)

-- what was told of each call of an acceptance is enough: the step is that of the definitions, and the parts stand for what it leaves
pub arrived_ends : (p : Plan) (w : World) (c : ℕ) (x : Client) (local : LocalSurfaceId) (frame : CompositorFrame) (v : Served)
    (coming : Coming) (f : Following) (a : Accepted) (support : Supported) (settling new : SurfaceManager) (ready : Roomy Sub)
    (root : Option SurfaceId) (anew : Bool) (s : Step) → Serves p w v → IsAllowed p w c x local frame → IsComing w x local frame coming
    → HasRoomToSubmit c coming v.settling v.returned f
    → (IsTakingIn p w c x local frame coming v.support v.settling → IsAcceptedAs w x local frame a)
    → (IsTakingIn p w c x local frame coming v.support v.settling → HasTakenIn p w x local frame support settling ready.list)
    → IsWithin coming.listings v.settling settling (length ready.list) → f.activated.spare ≤ ready.spare + length ready.list
    → settling.live.kept ≡ v.settling.live.kept
    → (IsSupport p (accepted w x local frame).world support → root ≡ (accepted w x local frame).world.root) → anew ≡ is_some coming.new
    → s.reply ≡ reply.Accepted a.sub.ordinal a.index
    → (IsFollowed (accepted w x local frame).world root coming.new anew settling (record f { activated = ready })
    → (s.effects ≡ (outcome_of [] (accepted w x local frame)).effects)
    × AreSettling (outcome_of [] (accepted w x local frame)).world None new)
    → NoneReleased new.live.lent → resources_out new.live.lent ≤ resources_out settling.live.lent
    → IsStepOf p w (event.Client c) s
    × Serves p (step_in p w (event.Client c)).world (record v { support = support; settling = new })
arrived_ends p w c x local frame v coming f a support settling new ready root anew s serves allowed comes room told taken within spare kept
    of_root creates reply follows released out =
    let takes = is_taking_in p w c x local frame v coming f serves allowed comes room in
    let arrived = has_arrived p w c x local frame v coming f a support settling ready serves allowed comes room (told takes) (taken takes)
    within spare kept in
    let after = follows (arrived_follows p w c x local frame v coming f a support settling ready arrived root anew (of_root arrived.taken.kept)
    creates) in (
      arrived_step p w c x local frame v coming f a support settling ready arrived s reply after.0,
      arrived_serves p w c x local frame v coming f a support settling ready arrived new after.1 released out,
    )
