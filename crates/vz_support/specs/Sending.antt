-- When the senders represent the clients of the machine's state.
use Rattle.std.specs.Prelude.{◌≡◌, ℕ, Option, Some, None, List, [], drop, length}
use Rattle.std.specs.Option.{option_map}
use Rattle.vz_frame.specs.declared.message.Message.{Message}
use Rattle.vz_frame.specs.declared.message.ClientFile.{ClientFile}
use Rattle.vz_rules.specs.Plan.{Plan}
use Rattle.vz_rules.specs.World.{World, Client, Resource, client_at, file_of, resource_in}
use Rattle.vz_support.specs.Sent.{Sender, sender_at, block_in}

-- the messages of a file after the first so many
abbrev pub left_in : Option ClientFile → ℕ → List Message
left_in None n = []
left_in (Some f) n = drop n f.messages

-- a sender represents a client of the machine's state
pub record IsSender (p : Plan) (x : Client) (s : Sender) : Type 0 where
  pub sink : s.sink ≡ x.sink
  pub left : s.left ≡ left_in (file_of p x.number) x.taken
  pub taken : s.taken ≡ x.taken
  pub closed : s.closed ≡ x.closed
  pub answered : s.answered ≡ x.answered
  pub blocks : (id : ℕ) → block_in s.blocks id ≡ option_map (λ (r : Resource). r.block) (resource_in id x.resources)

-- the senders represent all clients
pub record AreSenders (p : Plan) (w : World) (list : List Sender) : Type 0 where
  pub count : length list ≡ length w.clients
  pub each : (c : ℕ) (x : Client) → client_at w c ≡ Some x → IsSender p x (sender_at list c)
