-- The senders: what clients have still to send, and which blocks they stored.
use Rattle.std.specs.Prelude.{ℕ, ◌+◌, ◌-◌, Bool, true, false, ◌&&◌, ◌==◌, nat_eq, Option, List, [], ◌∷◌, drop, get_or, if◌then◌else◌}
use Rattle.std.specs.Option.{option_map_or}
use Rattle.std.specs.List.{filter_map}
use Rattle.std.specs.Map.{lookup}
use Rattle.indexmap.specs.IndexMap.{insert_entry}
use Rattle.vz_ids.specs.declared.FrameSinkId.{FrameSinkId}
use Rattle.vz_pixels.specs.Block.{Block}
use Rattle.vz_frame.specs.declared.frame.Listing.{Listing}
use Rattle.vz_frame.specs.declared.message.ClientFile.{ClientFile}
use Rattle.vz_frame.specs.declared.message.Message.{Message}

-- the remaining messages of a file, and how many were taken
pub record Left : Type 0 where
  pub left : List Message
  pub taken : ℕ

-- a client: its sink, its remaining messages, how many were taken, whether it is closed, the tick
-- that it answered last, and the block that each stored id names
pub record Sender : Type 0 where
  pub sink : FrameSinkId
  pub left : List Message
  pub taken : ℕ
  pub closed : Bool
  pub answered : ℕ
  pub blocks : List (ℕ × Block)

-- a client that has taken nothing of its file
abbrev pub opened : ClientFile → Sender
opened f = record { sink = f.sink; left = f.messages; taken = 0; closed = false; answered = 0; blocks = [] }

-- the sender that is used for an unknown client
abbrev pub nobody : Sender
nobody =
    record { sink = record { client_id = 0; sink_id = 0 }; left = []; taken = 0; closed = false; answered = 0; blocks = [] }

-- the client with a number, counted from 1
abbrev pub sender_at : List Sender → ℕ → Sender
sender_at list c = get_or list (c - 1) nobody

-- the client takes its next message
abbrev pub taking_one : Sender → Sender
taking_one s = record s { left = drop 1 s.left; taken = s.taken + 1 }

-- the message that was taken last becomes the next one again
abbrev pub giving_back : Message → Sender → Sender
giving_back m s = record s { left = m ∷ s.left; taken = s.taken - 1 }

-- the client closes
abbrev pub closing : Sender → Sender
closing s = record s { closed = true }

-- the client answers a tick
abbrev pub answering : ℕ → Sender → Sender
answering tick s = record s { answered = tick }

-- the client answers a tick if the number is that tick
abbrev pub answered_by : ℕ → ℕ → Sender → Sender
answered_by tick n s = if n == tick then answering tick s else s

-- the block that an id names
abbrev pub block_in : List (ℕ × Block) → ℕ → Option Block
block_in blocks id = lookup (nat_eq id) blocks

-- an id names a block from now on
abbrev pub storing_block : ℕ → Block → Sender → Sender
storing_block id block s = record s { blocks = insert_entry nat_eq s.blocks id block }

-- the listing's id names a stored block of the listed size
abbrev pub knows : List (ℕ × Block) → Listing → Bool
knows blocks l = option_map_or (λ (b : Block). (b.w == l.w) && (b.h == l.h)) (block_in blocks l.id) false

-- the block of each listing
abbrev pub blocks_in : List (ℕ × Block) → List Listing → List Block
blocks_in blocks listings = filter_map (λ (l : Listing). block_in blocks l.id) listings
