-- The changes of the machine's state at which references are lent, held and released.
use Rattle.std.specs.Prelude.{◌≡◌, ℕ, Some, None, List, ◌∷◌, IsTrue, IsFalse}
use Rattle.std.specs.List.{Contains}
use Rattle.vz_ids.specs.declared.LocalSurfaceId.{LocalSurfaceId}
use Rattle.vz_ids.specs.declared.Sub.{Sub}
use Rattle.vz_frame.specs.declared.frame.CompositorFrame.{CompositorFrame}
use Rattle.vz_frame.specs.declared.frame.Listing.{Listing}
use Rattle.vz_rules.specs.Plan.{Plan, IsPlan}
use Rattle.vz_rules.specs.World.{World, Client, Surface, Submission, has_sub, is_waiting, is_active, last_created, sub_of}
use Rattle.vz_rules.specs.Messages.{id_of, submit_refusal}
use Rattle.vz_rules.specs.Kept.{KeepsAlways, KeepsPlan}
use Rattle.vz_returns.specs.Lent.{Lent, AreLent, NoneReleased}
use Rattle.vz_returns.specs.Listed.{lists_twice, waiting_listings, active_listings}

-- a client's submission with these listings is accepted, and the submission that it replaces has
-- those
pub record IsAccepted (p : Plan) (w : World) (c : Client) (local : LocalSurfaceId) (frame : CompositorFrame)
    (client : ℕ) (listings replaced : List Listing) (lenders : List Lent) : Type 0 where
  pub plan : IsPlan p
  pub always : KeepsAlways w
  pub of_plan : KeepsPlan p w
  pub known : Contains w.clients c
  pub number : c.number ≡ client
  pub goes_on : IsFalse c.closed
  pub allowed : submit_refusal (last_created w c.number) c.resources local frame ≡ None
  pub listed : listings ≡ frame.resources
  pub replaces : replaced ≡ waiting_listings w (id_of c local)
  pub once : IsFalse (lists_twice replaced)
  pub none_released : NoneReleased lenders
  pub lent : AreLent w lenders

-- a client's submission becomes active, on a surface whose active submission has these listings
pub record IsRising (w : World) (s : Submission) (client : ℕ) (listings : List Listing) (lenders : List Lent) : Type 0 where
  pub always : KeepsAlways w
  pub known : Contains w.subs s
  pub waits : IsTrue (is_waiting s)
  pub own : s.submitted.sub.client ≡ client
  pub listed : listings ≡ active_listings w s.submitted.id
  pub once : IsFalse (lists_twice listings)
  pub lent : AreLent w lenders

-- a client's surface is destroyed, and its waiting and active submissions have these listings
pub record IsGoing (w : World) (d : Surface) (client : ℕ) (waiting active : List Listing) (lenders : List Lent) : Type 0 where
  pub always : KeepsAlways w
  pub known : Contains w.surfaces d
  pub own : d.client ≡ client
  pub ends : waiting ≡ waiting_listings w d.id
  pub ends_active : active ≡ active_listings w d.id
  pub once : IsFalse (lists_twice waiting)
  pub once_active : IsFalse (lists_twice active)
  pub lent : AreLent w lenders

-- a frame is drawn: these submissions hold their resources already, and this client's active
-- submission is the next to do so
pub record IsDrawn (p : Plan) (w : World) (drawn : List Sub) (s : Submission)
    (client : ℕ) (listings : List Listing) (lenders : List Lent) : Type 0 where
  pub plan : IsPlan p
  pub always : KeepsAlways w
  pub of_plan : KeepsPlan p w
  pub known : Contains w.subs s
  pub shown : IsTrue (is_active s)
  pub next : IsFalse (has_sub drawn (sub_of s))
  pub own : s.submitted.sub.client ≡ client
  pub listed : listings ≡ s.submitted.frame.resources
  pub once : IsFalse (lists_twice listings)
  pub none_released : NoneReleased lenders
  pub lent : AreLent (record w { in_flight = Some drawn }) lenders

-- the drawn frame is done: among the submissions that still hold their resources in it, this
-- client's is the first, and these are the others
pub record IsDone (w : World) (s : Submission) (others : List Sub)
    (client : ℕ) (listings : List Listing) (lenders : List Lent) : Type 0 where
  pub always : KeepsAlways w
  pub known : Contains w.subs s
  pub first : IsFalse (has_sub others (sub_of s))
  pub own : s.submitted.sub.client ≡ client
  pub listed : listings ≡ s.submitted.frame.resources
  pub once : IsFalse (lists_twice listings)
  pub lent : AreLent (record w { in_flight = Some (sub_of s ∷ others) }) lenders
