-- What is kept for the clients, and when it represents the machine's state.
use Rattle.std.specs.Prelude.{◌≡◌, ℕ, Bool, true, false, Option, Some, List}
use Rattle.vz_ids.specs.declared.SurfaceId.{SurfaceId}
use Rattle.vz_frame.specs.declared.message.Message.{Message}
use Rattle.vz_frame.specs.declared.message.Message.TheVariants.{Await}
use Rattle.vz_frame.specs.Frame.{first_of}
use Rattle.vz_rules.specs.Plan.{Plan}
use Rattle.vz_rules.specs.World.{World, Client, client_at, first_sink, next_message}
use Rattle.vz_rules.specs.Kept.{KeepsAlways}
use Rattle.vz_support.specs.Sent.{Sender, sender_at, taking_one}
use Rattle.vz_support.specs.Changed.{ChangesOne}
use Rattle.vz_support.specs.Sending.{AreSenders}
use Rattle.vz_sinks.specs.Relating.{Related, related_in}

-- the clients with what they have still to send, their sinks with pending begin-frames, the tick,
-- the root, and whether it is over
pub record Supported : Type 0 where
  pub clients : List Sender
  pub sinks : Related
  pub tick : ℕ
  pub root : Option SurfaceId
  pub over : Bool

-- this represents the clients of the machine's state
pub record IsSupport (p : Plan) (w : World) (v : Supported) : Type 0 where
  pub clients : AreSenders p w v.clients
  pub first : first_sink p ≡ Some v.sinks.first
  pub sinks : v.sinks ≡ related_in v.sinks.first w
  pub tick : v.tick ≡ w.tick
  pub root : v.root ≡ w.root
  pub over : v.over ≡ w.over

-- the client with this number takes this message next, in a state in which everything holds that
-- always does
pub record Sends (p : Plan) (w : World) (c : ℕ) (x : Client) (m : Message) : Type 0 where
  pub keeps : KeepsAlways w
  pub here : client_at w c ≡ Some x
  pub next : next_message p x ≡ Some m

-- a client takes this message next
abbrev pub IsNext : Supported → ℕ → Message → Type 0
IsNext v c m = first_of (sender_at v.clients c).left ≡ Some m

-- a client's next message was taken, and nothing else changed
pub record HasTaken (c : ℕ) (old new : Supported) : Type 0 where
  pub changes : ChangesOne c taking_one old.clients new.clients
  pub kept : new ≡ record old { clients = new.clients }

-- the message is an Await
abbrev pub is_await : Option Message → Bool
is_await (Some Await) = true
is_await _ = false
