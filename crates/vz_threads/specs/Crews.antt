-- The end of a client while its messages are taken, by its thread or after all threads have ended.
use Rattle.std.specs.Prelude.{◌≡◌, ℕ, ◌-◌, ◌≤◌, true, ◌⊎◌, All, Some, List, map, reverse, length, slice_index}
use Rattle.atomic_table.specs.Seated.{TableId}
use Rattle.vz_rules.specs.Plan.{Plan, message_counts}
use Rattle.vz_outside.specs.Told.{Call, AreTold}
use Rattle.vz_desk.specs.declared.totals.Totals.{Totals}
use Rattle.vz_desk.specs.Owners.{Owner}
use Rattle.vz_desk.specs.Answers.{TellsIdle}
use Rattle.vz_threads.specs.declared.crew.Started.{Started}
use Rattle.vz_threads.specs.declared.crew.Started.TheVariants.{Running, Here}

-- how many messages the file of a client has, by the counts of all files
abbrev pub messages_of : List ℕ → ℕ → ℕ
messages_of counts c = slice_index counts (c - 1)

-- a client's end at work: it is of this desk and this plan, which has the client; each of its
-- calls took a message, and a gate was told of it; and it took at most as many as its file has
pub record IsAtWork (told : Call → Type 0) (id : TableId) (p : Plan) (o : Owner Totals) : Type 0 where
  pub desk : o.desk ≡ id
  pub plan : o.plan ≡ Some p
  pub client : (1 ≤ o.number) × (o.number ≤ length p.files)
  pub timely : o.totals.calls ≡ o.totals.taken
  pub gated : AreTold told o.number 0 o.totals.calls
  pub few : o.totals.taken ≤ messages_of (message_counts p) o.number

-- an end is at work, and its file has so many messages
pub record MayTake (told : Call → Type 0) (id : TableId) (count : ℕ) (o : Owner Totals) : Type 0 where
  pub plan : Plan
  pub work : IsAtWork told id plan o
  pub all : count ≡ messages_of (message_counts plan) o.number

-- both are the same client's end, and if the old one was at work, the new one is
pub record WorksOn (told : Call → Type 0) (old new : Owner Totals) : Type 0 where
  pub number : new.number ≡ old.number
  pub work : (id : TableId) (p : Plan) → IsAtWork told id p old → IsAtWork told id p new

-- all ends are at work, and the files have so many messages
pub record IsCrew (told : Call → Type 0) (id : TableId) (messages : List ℕ) (os : List (Owner Totals)) : Type 0 where
  pub plan : Plan
  pub work : All (IsAtWork told id plan) os
  pub counts : messages ≡ message_counts plan

-- both are the ends of the same clients, and if the old ones were at work, the new ones are
pub record CrewWorksOn (told : Call → Type 0) (old new : List (Owner Totals)) : Type 0 where
  pub numbers : map (λ (o : Owner Totals). o.number) new ≡ map (λ (o : Owner Totals). o.number) old
  pub work : (id : TableId) (p : Plan) → All (IsAtWork told id p) old → All (IsAtWork told id p) new

-- an end took all messages of its file
abbrev pub HasTakenAll : List ℕ → Owner Totals → Type 0
HasTakenAll messages o = o.totals.taken ≡ messages_of messages o.number

-- an end took so many messages, or its client is idle in the world after what the end has seen
abbrev pub IsServed : ℕ → Owner Totals → Type 0
IsServed count o = (o.totals.taken ≡ count) ⊎ TellsIdle o true

-- an end is one of the crew's, and these are the counts of messages of all files
pub record IsInCrew (told : Call → Type 0) (id : TableId) (messages : List ℕ) (o : Owner Totals) : Type 0 where
  pub plan : Plan
  pub work : IsAtWork told id plan o
  pub counts : messages ≡ message_counts plan

-- the end that was given to a thread, or that stayed with the display
abbrev pub end_of : {M G P T : Type 0} → Started M G P T → Owner Totals
end_of (Running handle) = handle.promise.given.value
end_of (Here end) = end

-- the ends of all that were started; the one started last comes first in the list
abbrev pub crew_of : {M G P T : Type 0} → List (Started M G P T) → List (Owner Totals)
crew_of started = map end_of (reverse started)

-- a thread calls this gate, if there is one
abbrev pub IsToldBy : {M G P T : Type 0} → G → Started M G P T → Type 0
IsToldBy gate (Running handle) = handle.promise.gate.value ≡ gate
IsToldBy gate (Here end) = Unit {0}

-- an end that stayed with the display took all messages of its file, or its client is idle
abbrev pub IsServedHere : {M G P T : Type 0} → List ℕ → Started M G P T → Type 0
IsServedHere messages (Running handle) = Unit {0}
IsServedHere messages (Here end) = IsServed (messages_of messages end.number) end
