-- Questions to a machine between steps.
use Rattle.std.specs.Prelude.{◌≡◌, ◌≤◌, ℕ, Bool, false, Option, Some, None, IsTrue, List, length}
use Rattle.std.specs.List.{Contains}
use Rattle.vz_base.specs.declared.limits.TheConstants.{MOST_FILES}
use Rattle.vz_ids.specs.declared.FrameSinkId.{FrameSinkId}
use Rattle.vz_frame.specs.declared.message.Message.{Message}
use Rattle.vz_frame.specs.declared.message.Message.TheVariants.{Submit}
use Rattle.vz_rules.specs.Plan.{Plan, has_sink}
use Rattle.vz_rules.specs.World.{Machine, World, Client, client_at, first_sink, next_message}
use Rattle.vz_rules.specs.Messages.{reaches}
use Rattle.vz_rules.specs.Step.{is_attached}
use Rattle.vz_rules.specs.Course.{waits, is_idle, has_answered}
use Rattle.vz_slow.specs.declared.asked.Asked.{Asked}

-- a test of a client; false if there is no client with this number
abbrev pub tested : Option Client → (Client → Bool) → Bool
tested None test = false
tested (Some x) test = test x

-- the next reply to a client would be NotYet
abbrev pub waits_at : Machine → ℕ → Bool
waits_at m c = tested (client_at m.world c) (waits m.plan m.world)

-- a client is closed, has no message left, or waits
abbrev pub idle_at : Machine → ℕ → Bool
idle_at m c = tested (client_at m.world c) (is_idle m.plan m.world)

-- a client has answered the tick
abbrev pub answered_at : Machine → ℕ → Bool
answered_at m c = tested (client_at m.world c) (has_answered m.world)

-- a client is attached
abbrev pub attached_at : Machine → ℕ → Bool
attached_at m c = tested (client_at m.world c) (is_attached m.plan m.world)

-- how many resources a message's frame lists; 0 if it has no frame
abbrev pub listed_in : Option Message → ℕ
listed_in (Some (Submit frame local)) = length frame.resources
listed_in _ = 0

-- how many resources the next message of a client lists
abbrev pub listed_at : Machine → ℕ → ℕ
listed_at m c = elim (client_at m.world c) [ Some x ↦ listed_in (next_message m.plan x) | None ↦ 0 ]

-- the answers to all questions about a client
abbrev pub asked_of : Plan → World → Client → Asked
asked_of p w c = record {
  sink = c.sink;
  waits = waits p w c;
  is_idle = is_idle p w c;
  has_answered = has_answered w c;
  listed = listed_in (next_message p c);
}

-- relations lead from the first client's sink to this sink
abbrev pub is_below : Plan → List (FrameSinkId × FrameSinkId) → FrameSinkId → Bool
is_below p relations sink = elim (first_sink p) [ Some first ↦ reaches relations first sink | None ↦ false ]

-- a sink and all children of relations are among at most as many sinks as a plan has files
pub record AreFew (relations : List (FrameSinkId × FrameSinkId)) (from : FrameSinkId) : Type 0 where
  pub all : List FrameSinkId
  pub few : length all ≤ MOST_FILES
  pub first : IsTrue (has_sink all from)
  pub children : (r : FrameSinkId × FrameSinkId) → Contains relations r → IsTrue (has_sink all r.1)

-- the same, from the first client's sink on
abbrev pub AreFewFrom : Plan → List (FrameSinkId × FrameSinkId) → Type 0
AreFewFrom p relations = (first : FrameSinkId) → first_sink p ≡ Some first → AreFew relations first
