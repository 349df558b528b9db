-- A submission that a client sends: what is read of it, the room that is made for it, and what its
-- acceptance changes.
use Rattle.std.specs.Prelude.{◌≡◌, ℕ, ◌+◌, ◌<◌, ◌≤◌, Bool, not, IsTrue, is_some, Option, Some, None, List, length, filter, if◌then◌else◌}
use Rattle.vz_base.specs.declared.limits.TheConstants.{TEMPORARY_TICKS}
use Rattle.vz_geom.specs.declared.Size.{Size}
use Rattle.vz_ids.specs.declared.FrameSinkId.{FrameSinkId}
use Rattle.vz_ids.specs.declared.LocalSurfaceId.{LocalSurfaceId}
use Rattle.vz_ids.specs.declared.Sub.{Sub}
use Rattle.vz_pixels.specs.Block.{Block}
use Rattle.vz_frame.specs.declared.frame.CompositorFrame.{CompositorFrame}
use Rattle.vz_frame.specs.declared.message.Message.TheVariants.{Submit}
use Rattle.vz_frame.specs.Roomy.{Roomy}
use Rattle.vz_rules.specs.declared.entry.Returned.{Returned}
use Rattle.vz_rules.specs.declared.entry.Fed.{Fed}
use Rattle.vz_rules.specs.Plan.{Plan, IsPlan}
use Rattle.vz_rules.specs.World.{World, Client, last_created, sub_of}
use Rattle.vz_rules.specs.Settle.{is_met}
use Rattle.vz_rules.specs.Messages.{accepted, new_submission, is_last, id_of, blocks_of}
use Rattle.vz_rules.specs.Kept.{Keeps, KeepsPlan, KeepsMessages}
use Rattle.vz_returns.specs.Lent.{NoneReleased, resources_out}
use Rattle.vz_returns.specs.Owed.{waiting_on}
use Rattle.vz_surface_manager.specs.declared.changes.Accepted.{Accepted}
use Rattle.vz_surface_manager.specs.Acceptance.{HasRoomFor, new_one}
use Rattle.vz_surface_manager.specs.declared.surface_manager.SurfaceManager.{SurfaceManager}
use Rattle.vz_surface_manager.specs.Settles.{AreSettling, IsToSettle}
use Rattle.vz_support.specs.Supporting.{Supported, IsSupport}
use Rattle.vz_manager.specs.declared.outcome.Following.{Following}
use Rattle.vz_manager.specs.declared.outcome.New.{New}
use Rattle.vz_manager.specs.declared.arriving.Coming.{Coming}
use Rattle.vz_manager.specs.Serving.{Serves, IsSending}
use Rattle.vz_manager.specs.Followed.{HasRoomAfter}
use Rattle.vz_manager.specs.Judging.{refusal_in, deadline_of}

-- the client with this number has not closed, and submits a frame next that is not refused
pub record IsAllowed (p : Plan) (w : World) (c : ℕ) (x : Client) (local : LocalSurfaceId) (frame : CompositorFrame) : Type 0 where
  pub sends : IsSending p w c x (Submit frame local)
  pub allowed : refusal_in w x local frame ≡ None

-- a client submits a frame that is not refused, and all parts represent the state between steps
pub record IsSubmitting (p : Plan) (w : World) (c : ℕ) (x : Client) (local : LocalSurfaceId) (frame : CompositorFrame)
    (support : Supported) (settling : SurfaceManager) : Type 0 where
  pub plan : IsPlan p
  pub keeps : Keeps w
  pub of_plan : KeepsPlan p w
  pub messages : KeepsMessages w
  pub kept : IsSupport p w support
  pub stands : AreSettling w None settling
  pub released : NoneReleased settling.live.lent
  pub allowed : IsAllowed p w c x local frame

-- the surface that a submission creates, if it is not on its client's last surface, and the tick
-- until which it is kept
unfoldable pub created_by : World → Client → LocalSurfaceId → Option New
created_by w x local =
    if is_last (last_created w x.number) local then None
    else Some (record { id = id_of x local; until = w.tick + TEMPORARY_TICKS })

-- this is what is read of a submission
pub record IsComing (w : World) (x : Client) (local : LocalSurfaceId) (frame : CompositorFrame) (coming : Coming) : Type 0 where
  pub sink : coming.sink ≡ x.sink
  pub due : coming.due ≡ w.tick + deadline_of frame
  pub new : coming.new ≡ created_by w x local
  pub listings : coming.listings ≡ length frame.resources
  pub references : coming.references ≡ length frame.metadata.references
  pub lacked : coming.lacked.list ≡ filter (λ d. not (is_met w d)) frame.metadata.dependencies
  pub blocks : coming.blocks ≡ blocks_of x.resources frame

-- there is room for a submission and for everything that may follow it, and for the end of the
-- drawn frame, if there is one
pub record HasRoomToSubmit (c : ℕ) (coming : Coming) (settling : SurfaceManager) (returned : Roomy Returned)
    (following : Following) : Type 0 where
  pub live : HasRoomFor c coming.listings coming.references settling.live
  pub keeps : IsTrue (is_some coming.new) → 0 < settling.live.kept.room
  pub waiting : length coming.lacked.list < settling.waiting.spare
  pub lands : IsTrue (is_some settling.live.flight) → resources_out settling.live.lent + coming.listings ≤ returned.spare
  pub follows : HasRoomAfter coming.listings settling following

-- whatever state the parts represented, they represent it with other surfaces and another list for
-- the end of the drawn frame
abbrev pub StillServe : SurfaceManager → Roomy Returned → SurfaceManager → Roomy Returned → Type 0
StillServe old before new after =
    (p : Plan) (w : World) (size : Size) (support : Supported) (fed : Roomy Fed) (room : Bool)
    → Serves p w (record { size = size; support = support; settling = old; returned = before; fed = fed; landed = room })
    → Serves p w (record { size = size; support = support; settling = new; returned = after; fed = fed; landed = room })

-- a submission is to be accepted, with its client's sink and the blocks of its listings, and there
-- is room for it
pub record IsArriving (p : Plan) (w : World) (c : ℕ) (x : Client) (local : LocalSurfaceId) (frame : CompositorFrame)
    (sink : FrameSinkId) (blocks : List Block) (support : Supported) (settling : SurfaceManager) : Type 0 where
  pub submits : IsSubmitting p w c x local frame support settling
  pub own : sink ≡ x.sink
  pub listed : blocks ≡ blocks_of x.resources frame
  pub room : HasRoomFor c (length frame.resources) (length frame.metadata.references) settling.live

-- a submission is to be accepted, this was read of it, and there is room for it
pub record IsTakingIn (p : Plan) (w : World) (c : ℕ) (x : Client) (local : LocalSurfaceId) (frame : CompositorFrame)
    (coming : Coming) (support : Supported) (settling : SurfaceManager) : Type 0 where
  pub submits : IsSubmitting p w c x local frame support settling
  pub comes : IsComing w x local frame coming
  pub live : HasRoomFor c coming.listings coming.references settling.live
  pub waiting : length coming.lacked.list < settling.waiting.spare

-- this describes how a submission was accepted
pub record IsAcceptedAs (w : World) (x : Client) (local : LocalSurfaceId) (frame : CompositorFrame) (a : Accepted) : Type 0 where
  pub sub : a.sub ≡ sub_of (new_submission w x local frame)
  pub index : a.index ≡ (new_submission w x local frame).submitted.index
  pub replaced : a.replaced ≡ waiting_on w (id_of x local)

-- a submission was accepted: what is kept for the clients represents the new state, and the
-- surfaces and what waits are to settle there, with these submissions ready
pub record HasTakenIn (p : Plan) (w : World) (x : Client) (local : LocalSurfaceId) (frame : CompositorFrame) (support : Supported)
    (settling : SurfaceManager) (subs : List Sub) : Type 0 where
  pub kept : IsSupport p (accepted w x local frame).world support
  pub settles : IsToSettle (accepted w x local frame).world (new_one w x local) settling subs
