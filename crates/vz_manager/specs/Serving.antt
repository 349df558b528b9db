-- The parts of the machine, and when they represent a state of a plan.
use Rattle.std.specs.Prelude.{◌≡◌, ℕ, ◌≤◌, Bool, true, IsTrue, IsFalse, is_some, Some, None, []}
use Rattle.vz_geom.specs.declared.Size.{Size}
use Rattle.vz_frame.specs.declared.message.Message.{Message}
use Rattle.vz_frame.specs.Roomy.{Roomy}
use Rattle.vz_rules.specs.declared.entry.Event.{Event}
use Rattle.vz_rules.specs.declared.entry.Event.TheVariants as event
use Rattle.vz_rules.specs.declared.entry.Refusal.{Refusal}
use Rattle.vz_rules.specs.declared.entry.Returned.{Returned}
use Rattle.vz_rules.specs.declared.entry.Fed.{Fed}
use Rattle.vz_rules.specs.Plan.{Plan, IsPlan}
use Rattle.vz_rules.specs.World.{World, Client, client_at, next_message}
use Rattle.vz_rules.specs.Messages.{refused}
use Rattle.vz_rules.specs.Step.{answer_to, step_in}
use Rattle.vz_rules.specs.Kept.{Keeps, KeepsPlan, KeepsMessages}
use Rattle.vz_machine.specs.declared.machine.Step.{Step}
use Rattle.vz_returns.specs.Lent.{NoneReleased, resources_out}
use Rattle.vz_surface_manager.specs.Frame_end.{flying_count}
use Rattle.vz_surface_manager.specs.declared.surface_manager.SurfaceManager.{SurfaceManager}
use Rattle.vz_surface_manager.specs.Settles.{AreSettling}
use Rattle.vz_support.specs.Supporting.{Supported, IsSupport}

-- the size of the display, what is kept for the clients, the surfaces with what waits, and the
-- lists for the end of the drawn frame, with reserved room, and whether there is a place for its
-- effects
pub record Served : Type 0 where
  pub size : Size
  pub support : Supported
  pub settling : SurfaceManager
  pub returned : Roomy Returned
  pub fed : Roomy Fed
  pub landed : Bool

-- there is room for the end of the drawn frame, if there is one, so that Done takes no memory
pub record CanLand (v : Served) : Type 0 where
  pub none_returned : v.returned.list ≡ []
  pub none_fed : v.fed.list ≡ []
  pub returned : IsTrue (is_some v.settling.live.flight) → resources_out v.settling.live.lent ≤ v.returned.spare
  pub fed : IsTrue (is_some v.settling.live.flight) → flying_count v.settling.live.flight ≤ v.fed.spare
  pub effects : IsTrue (is_some v.settling.live.flight) → v.landed ≡ true

-- each part represents a state between steps
pub record Serves (p : Plan) (w : World) (v : Served) : Type 0 where
  pub plan : IsPlan p
  pub keeps : Keeps w
  pub of_plan : KeepsPlan p w
  pub messages : KeepsMessages w
  pub size : v.size ≡ p.size
  pub support : IsSupport p w v.support
  pub settling : AreSettling w None v.settling
  pub released : NoneReleased v.settling.live.lent
  pub lands : CanLand v

-- a step returns what the definitions answer, and the effects that follow
pub record IsStepOf (p : Plan) (w : World) (e : Event) (s : Step) : Type 0 where
  pub reply : s.reply ≡ (step_in p w e).reply
  pub effects : s.effects ≡ (step_in p w e).effects

-- the client with this number has not closed, and sends this message next
pub record IsSending (p : Plan) (w : World) (c : ℕ) (x : Client) (m : Message) : Type 0 where
  pub here : client_at w c ≡ Some x
  pub stays : IsFalse x.closed
  pub next : next_message p x ≡ Some m

-- the client with this number has no message left
pub record HasNone (p : Plan) (w : World) (c : ℕ) (x : Client) : Type 0 where
  pub here : client_at w c ≡ Some x
  pub none : next_message p x ≡ None

-- the client with this number has closed, and has this message left
pub record IsClosed (p : Plan) (w : World) (c : ℕ) (x : Client) (m : Message) : Type 0 where
  pub here : client_at w c ≡ Some x
  pub closed : IsTrue x.closed
  pub next : next_message p x ≡ Some m

-- the client with this number has this message next, and it is refused for this reason
pub record IsRefused (p : Plan) (w : World) (c : ℕ) (x : Client) (m : Message) (r : Refusal) : Type 0 where
  pub here : client_at w c ≡ Some x
  pub next : next_message p x ≡ Some m
  pub answer : answer_to p w (event.Client c) ≡ refused w x r
