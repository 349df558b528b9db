-- The clients' sinks and the relations between them.
use Rattle.std.specs.Prelude.{ℕ, ◌+◌, Bool, true, false, not, ◌&&◌, ◌==◌, Option, Some, None, List, [], ◌∷◌, map, if◌then◌else◌}
use Rattle.std.specs.List.{list_any}
use Rattle.vz_ids.specs.declared.FrameSinkId.{FrameSinkId}
use Rattle.vz_ids.specs.Ids.{same_sink}
use Rattle.vz_rules.specs.World.{World, Client}
use Rattle.vz_rules.specs.declared.entry.Refusal.{Refusal}
use Rattle.vz_rules.specs.declared.entry.Refusal.TheVariants as refusal
use Rattle.vz_rules.specs.Messages.{reaches, first_some, when}
use Rattle.vz_sinks.specs.declared.seats.Seat.{Seat}
use Rattle.vz_sinks.specs.declared.refusals.SinkError.{SinkError}
use Rattle.vz_sinks.specs.declared.refusals.SinkError.TheVariants as error

-- the first client's sink, the clients with their sinks, and the relations from parent to child
pub record Related : Type 0 where
  pub first : FrameSinkId
  pub seats : List Seat
  pub relations : List (FrameSinkId × FrameSinkId)

-- a client before its first message
abbrev pub new_seat : ℕ → FrameSinkId → Seat
new_seat n sink = record { number = n; sink = sink; closed = false; delivered = None }

-- the clients with these sinks, numbered from n
unfoldable pub seats_from : ℕ → List FrameSinkId → List Seat
seats_from n [] = []
seats_from n (sink ∷ sinks) = new_seat n sink ∷ seats_from (n + 1) sinks

-- a sink is that of a client
abbrev pub is_known_in : List Seat → FrameSinkId → Bool
is_known_in seats sink = list_any (λ s. same_sink s.sink sink) seats

-- the test holds for the client with this number
unfoldable pub holds_of : (Seat → Bool) → List Seat → ℕ → Bool
holds_of test [] c = false
holds_of test (s ∷ seats) c = if s.number == c then test s else holds_of test seats c

-- a client has this sink
unfoldable pub is_own : List Seat → ℕ → FrameSinkId → Bool
is_own seats c sink = holds_of (λ s. same_sink sink s.sink) seats c

-- why a relation is refused, or None: by whether it closes a loop, whether both sinks are known,
-- and whether the parent is the client's
unfoldable pub refusal_for : Bool → Bool → Bool → Option SinkError
refusal_for is_loop are_known is_own =
    first_some (when is_loop error.Loop ∷ when (not are_known) error.UnknownSink ∷ when (not is_own) error.ParentOfOther ∷ [])

-- why the relation that a client asks for is refused, or None
unfoldable pub refusal_in : Related → ℕ → FrameSinkId → FrameSinkId → Option SinkError
refusal_in h c parent child =
    refusal_for (reaches h.relations child parent) (is_known_in h.seats parent && is_known_in h.seats child) (is_own h.seats c parent)

-- a client is attached: relations lead from the first client's sink to its sink
unfoldable pub attached_in : Related → ℕ → Bool
attached_in h c = holds_of (λ s. reaches h.relations h.first s.sink) h.seats c

-- a begin-frame is delivered to a client if the test holds for its sink and it is not closed
abbrev pub deliver_to : Bool → ℕ → Seat → Seat
deliver_to test n s = if test && not s.closed then record s { delivered = Some n } else s

-- a begin-frame is delivered to each attached client that is not closed
unfoldable pub delivered_to : Related → ℕ → List Seat
delivered_to h n = map (λ s. deliver_to (reaches h.relations h.first s.sink) n s) h.seats

-- the pending begin-frame of a client
unfoldable pub standing : List Seat → ℕ → Option ℕ
standing [] c = None
standing (s ∷ seats) c = if s.number == c then s.delivered else standing seats c

-- a client takes its begin-frame
abbrev pub take_one : ℕ → Seat → Seat
take_one c s = if s.number == c then record s { delivered = None } else s

-- a client is closed
abbrev pub close_one : ℕ → Seat → Seat
close_one c s = if s.number == c then record s { closed = true } else s

-- the refusal in the reply to a relation
abbrev pub refusal_of : SinkError → Option Refusal
refusal_of error.Loop = Some refusal.Loop
refusal_of error.UnknownSink = Some refusal.UnknownSink
refusal_of error.ParentOfOther = Some refusal.ParentOfOther
refusal_of error.Memory = None

-- a client of the machine's state
abbrev pub seat_of : Client → Seat
seat_of c = record { number = c.number; sink = c.sink; closed = c.closed; delivered = c.delivered }

-- the hierarchy of the machine's state, if the first client has this sink
abbrev pub related_in : FrameSinkId → World → Related
related_in first w = record { first = first; seats = map seat_of w.clients; relations = w.relations }
