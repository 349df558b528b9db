-- The arrival of a submission: what it requires, and the room for it.
use Rattle.std.specs.Prelude.{◌≡◌, ℕ, ◌+◌, ◌^◌, ◌<◌, ◌≤◌, IsFalse, Option, Some, None, List, if◌then◌else◌}
use Rattle.std.specs.List.{Contains}
use Rattle.vz_ids.specs.declared.FrameSinkId.{FrameSinkId}
use Rattle.vz_ids.specs.declared.LocalSurfaceId.{LocalSurfaceId}
use Rattle.vz_ids.specs.declared.SurfaceId.{SurfaceId}
use Rattle.vz_pixels.specs.Block.{Block}
use Rattle.vz_frame.specs.declared.frame.CompositorFrame.{CompositorFrame}
use Rattle.vz_rules.specs.Plan.{Plan, IsPlan}
use Rattle.vz_rules.specs.World.{World, Client, last_created}
use Rattle.vz_rules.specs.Messages.{new_submission, submit_refusal, is_last, id_of, blocks_of}
use Rattle.vz_rules.specs.Kept.{Keeps, KeepsPlan, KeepsMessages, IsWhole}
use Rattle.vz_returns.specs.Lent.{AreRoomier, HasRoom, NoneReleased}
use Rattle.vz_surface_manager.specs.Live.{Live, AreLive}

-- between steps, a client of a plan, which has not closed, submits a frame that is not refused and
-- that fits a message file, with the blocks of its listings
pub record IsAccepting (p : Plan) (w : World) (c : Client) (client : ℕ) (sink : FrameSinkId) (local : LocalSurfaceId)
    (frame : CompositorFrame) (blocks : List Block) (v : Live) : Type 0 where
  pub plan : IsPlan p
  pub keeps : Keeps w
  pub of_plan : KeepsPlan p w
  pub messages : KeepsMessages w
  pub live : AreLive w None v
  pub none_released : NoneReleased v.lent
  pub known : Contains w.clients c
  pub number : c.number ≡ client
  pub own : c.sink ≡ sink
  pub goes_on : IsFalse c.closed
  pub allowed : submit_refusal (last_created w c.number) c.resources local frame ≡ None
  pub whole : IsWhole (new_submission w c local frame).submitted
  pub listed : blocks ≡ blocks_of c.resources frame

-- there is room for a submission of a client with so many listings and references
pub record HasRoomFor (client listings references : ℕ) (v : Live) : Type 0 where
  pub lent : HasRoom listings client v.lent
  pub owed : 0 < v.owed.spare
  pub wanted : v.wanted + (references + 1) ≤ v.kept.spare
  pub counted : v.wanted + (references + 1) < 2 ^ 64
  pub told : 0 < v.damaged.spare

-- the new surface of a submission, if it is not on the client's last surface
abbrev pub new_one : World → Client → LocalSurfaceId → Option SurfaceId
new_one w c local = if is_last (last_created w c.number) local then None else Some (id_of c local)

-- nothing changes, except that there may be more room
pub record IsReadier (old new : Live) : Type 0 where
  pub store : new.store ≡ old.store
  pub lent : AreRoomier old.lent new.lent
  pub owed : new.owed.owed ≡ old.owed.owed
  pub sets : new.kept.sets ≡ old.kept.sets
  pub temporary : new.kept.temporary ≡ old.kept.temporary
  pub flight : new.flight ≡ old.flight
  pub wanted : new.wanted ≡ old.wanted
