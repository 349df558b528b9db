-- A submission that is taken and accepted, and waits or is ready at once.
use Rattle.std.proofs.Common.{◌≡◌, ℕ, ◌+◌, ◌≤◌, List, length, refl, ap, sym, ◌∙◌, subst, arith}
use Rattle.vz_ids.specs.{declared.FrameSinkId.FrameSinkId, declared.LocalSurfaceId.LocalSurfaceId, declared.SurfaceId.SurfaceId, declared.Sub.Sub}
use Rattle.vz_pixels.specs.Block.{Block}
use Rattle.vz_frame.specs.{declared.frame.CompositorFrame.CompositorFrame, declared.message.Message.TheVariants.Submit}
use Rattle.vz_rules.specs.Plan.{Plan}
use Rattle.vz_rules.specs.{World.World, World.Client, World.sub_of, Messages.accepted, Messages.new_submission, Messages.id_of, Kept.KeepsAlways}
use Rattle.vz_refs.specs.Referring.{Referring}
use Rattle.vz_surfaces.specs.Reading.{existing_count}
use Rattle.vz_returns.specs.{Lent.resources_out, Notes.owed_count, Owed.waiting_on as owed_on}
use Rattle.vz_surface_manager.specs.{Waits.Waits, Waits.AreWaiting, Waits.Tells, Waits.waiting_on, Live.Live, Live.AreLive, Settles.AreReady}
use Rattle.vz_surface_manager.specs.{declared.changes.Accepted.Accepted, Acceptance.IsAccepting, Acceptance.HasRoomFor, Acceptance.new_one}
use Rattle.vz_surface_manager.specs.declared.surface_manager.SurfaceManager.{SurfaceManager}
use Rattle.vz_support.specs.Supporting.{Supported, IsSupport, IsNext, Sends}
use Rattle.vz_manager.specs.{declared.arriving.Coming.Coming, Followed.IsWithin}
use Rattle.vz_manager.specs.Submitted.{IsComing, IsArriving, IsTakingIn, IsAcceptedAs, HasTakenIn}
use Rattle.vz_manager.proofs.{Judged.due_told, Submits.accepting, Submits.always_after, Submits.sender_of}

-- The acceptance

-- what holds of a message that was taken holds of the one that the state has
pub same_message : (P : LocalSurfaceId → CompositorFrame → Type 0) (a b : LocalSurfaceId) (f g : CompositorFrame)
    → (a ≡ b) × (f ≡ g) → P a f → P b g
same_message P a b f g e h = subst (P b) e.1 (subst (λ l. P l f) e.0 h)

module _ (p : Plan) (w : World) (c : ℕ) (x : Client) (local : LocalSurfaceId) (frame : CompositorFrame) (sink : FrameSinkId)
    (blocks : List Block) (support : Supported) (settling : SurfaceManager) (h : IsArriving p w c x local frame sink blocks support settling)
    (a : LocalSurfaceId) (f : CompositorFrame) where
  module _ (e : (a ≡ local) × (f ≡ frame)) where
    -- what was taken may be accepted
    pub taken_accepting : IsAccepting p w x c sink a f blocks settling.live
    taken_accepting =
        same_message (λ l g. IsAccepting p w x c sink l g blocks settling.live) local a frame f (sym e.0, sym e.1)
        (accepting p w c x local frame support settling h.submits sink blocks h.own h.listed)

    pub taken_room : HasRoomFor c (length f.resources) (length f.metadata.references) settling.live
    taken_room =
        subst (λ (g : CompositorFrame). HasRoomFor c (length g.resources) (length g.metadata.references) settling.live) (sym e.1) h.room

    -- and what it is accepted as
    pub taken_as : (t : Accepted) → t.sub ≡ sub_of (new_submission w x a f) → t.index ≡ (new_submission w x a f).submitted.index
        → t.replaced ≡ owed_on w (id_of x a) → IsAcceptedAs w x local frame t
    taken_as t sub index replaced =
        same_message (λ l g. IsAcceptedAs w x l g t) a local f frame e (record { sub = sub; index = index; replaced = replaced })

    pub taken_live : (v : Live) → AreLive (accepted w x a f).world (new_one w x a) v
        → AreLive (accepted w x local frame).world (new_one w x local) v
    taken_live v live = same_message (λ l g. AreLive (accepted w x l g).world (new_one w x l) v) a local f frame e live

    pub taken_out : (n m : ℕ) → n ≤ m + length f.resources → n ≤ m + length frame.resources
    taken_out n m out = omega (arith, out, ap (λ (g : CompositorFrame). length g.resources) e.1)

-- a submission that was taken is the next message again
pub is_back : (p : Plan) (w : World) (c : ℕ) (local : LocalSurfaceId) (taken frame : CompositorFrame) (old new : Supported)
    → KeepsAlways w → IsSupport p w old → 1 ≤ c → c ≤ length old.clients → IsNext old c (Submit taken local) → frame ≡ taken
    → ((x : Client) → Sends p w c x (Submit frame local) → IsSupport p w new) → IsSupport p w new
is_back p w c local taken frame old new always h some known next same back =
    let x = sender_of p w old c (Submit taken local) always h some known next in
    back x.0 (subst (λ g. Sends p w c x.0 (Submit g local)) (sym same) x.1)

-- Waiting

-- the one that waits on a surface
waits_same : (w : World) (id : SurfaceId) → owed_on w id ≡ waiting_on w id
unfolding waiting_on
waits_same w id = refl

tick_after : (w : World) (x : Client) (local : LocalSurfaceId) (frame : CompositorFrame) → (accepted w x local frame).world.tick ≡ w.tick
unfolding accepted
tick_after w x local frame = refl

-- what is told of a submission that was accepted
pub is_told : (p : Plan) (w : World) (x : Client) (local : LocalSurfaceId) (frame : CompositorFrame) (coming : Coming) (t : Accepted)
    (support : Supported) (tick : ℕ) (lacks : List SurfaceId) → IsComing w x local frame coming → IsAcceptedAs w x local frame t
    → IsSupport p (accepted w x local frame).world support → tick ≡ (accepted w x local frame).world.tick
    → lacks ≡ coming.lacked.list → Tells w x local frame (record { sub = t.sub; due = coming.due; replaced = t.replaced }) tick lacks
is_told p w x local frame coming t support tick lacks comes told kept now same =
    record {
      sub = told.sub;
      due = due_told w x local frame w.tick coming.due refl comes.due;
      replaced = told.replaced ∙ waits_same w (id_of x local);
      tick = now ∙ tick_after w x local frame;
      lacked = same ∙ comes.lacked;
    }

-- All of it

module _ (p : Plan) (w : World) (c : ℕ) (x : Client) (local : LocalSurfaceId) (frame : CompositorFrame) (coming : Coming)
    (support : Supported) (settling : SurfaceManager) (h : IsTakingIn p w c x local frame coming support settling) where
  -- there is room for what was read
  pub arrives : IsArriving p w c x local frame coming.sink coming.blocks support settling
  arrives =
      record {
        submits = h.submits;
        own = h.comes.sink;
        listed = h.comes.blocks;
        room = subst (λ n. HasRoomFor c n (length frame.metadata.references) settling.live) h.comes.listings
            (subst (λ n. HasRoomFor c coming.listings n settling.live) h.comes.references h.live);
      }

  -- those that wait are told apart from it
  pub still_waiting : (a : Waits) → a ≡ settling.waiting → AreWaiting w a
  still_waiting a same = subst (AreWaiting w) (sym same) h.submits.stands.waiting

  -- what was accepted is to settle
  pub is_taken_in : (kept : Supported) (live : Live) (waiting : Waits) (subs : List Sub) → IsSupport p (accepted w x local frame).world kept
      → AreLive (accepted w x local frame).world (new_one w x local) live → AreWaiting (accepted w x local frame).world waiting
      → AreReady (accepted w x local frame).world subs
      → HasTakenIn p w x local frame kept (record { live = live; waiting = waiting }) subs
  is_taken_in kept live waiting subs stands lives waits are_ready =
      record {
        kept = stands;
        settles = record {
          stands = record { always = always_after p w c x local frame support settling h.submits; live = lives; waiting = waits };
          ready = are_ready;
        };
      }

  -- no more than there is room for
  pub is_within : (live : Live) (waiting before : Waits) (risen : ℕ) → existing_count live.store ≤ existing_count settling.live.store + 1
      → resources_out live.lent ≤ resources_out settling.live.lent + length frame.resources
      → owed_count live.owed.owed ≡ owed_count settling.live.owed.owed + 1 → live.kept ≡ settling.live.kept
      → before ≡ settling.waiting → length waiting.blocked + risen ≤ length before.blocked + 1
      → IsWithin coming.listings settling (record { live = live; waiting = waiting }) risen
  is_within live waiting before risen surfaces out count kept same few =
      record {
        waiting = omega (arith, few, ap (λ (a : Waits). length a.blocked) same);
        surfaces = surfaces;
        out = omega (arith, out, h.comes.listings);
        owed = omega (arith, count);
        sets = omega (arith, ap (λ (r : Referring). length r.sets) kept);
        temporary = omega (arith, ap (λ (r : Referring). length r.temporary) kept);
      }
