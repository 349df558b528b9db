-- The calls that a caller on a thread makes.
use Rattle.std.specs.Prelude.{◌≡◌, ℕ, zero, suc, ◌+◌, ◌≤◌, false, All, List, [], ◌∷◌, ◌++◌, map, replicate, length, Some, Result, OnOk, OnErr}
use Rattle.atomic_table.specs.Seated.{TableId}
use Rattle.vz_loans.specs.Tokens.{Caller, IsAtRest, IsSameCaller}
use Rattle.vz_outside.specs.Told.{Call, number_of, AreTold}
use Rattle.vz_rules.specs.Plan.{Plan}
use Rattle.vz_rules.specs.Course.{is_of_client}
use Rattle.vz_rules.specs.declared.entry.Entry.{Entry}
use Rattle.vz_rules.specs.declared.entry.Event.{Event}
use Rattle.vz_rules.specs.declared.entry.Event.TheVariants as event
use Rattle.vz_turn.specs.Own.{made_with}

-- the events of entries, in their order
abbrev pub events_in : List Entry → List Event
events_in h = map (λ (e : Entry). e.event) h

-- the events of the entries that a caller made, in their order
abbrev pub events_of : Caller Plan Entry → List Event
events_of t = events_in (made_with t)

-- both are the same caller of the same hub, and the new one is not in a turn
abbrev pub Stays : Caller Plan Entry → Caller Plan Entry → Type 0
Stays old new = IsSameCaller old new × (new.inside ≡ false)

-- a caller of a hub with this plan that is not in a turn, and whose number is that of a client
pub record IsClient (id : TableId) (p : Plan) (t : Caller Plan Entry) : Type 0 where
  pub rests : IsAtRest id t
  pub plan : t.plan ≡ Some p
  pub from : 1 ≤ t.number
  pub upto : t.number ≤ length p.files

-- a client's caller may call the hub
abbrev pub MayCall : TableId → Caller Plan Entry → Type 0
MayCall id t = (p : Plan) × IsClient id p t

-- the events of so many calls of a client
abbrev pub calls_of : ℕ → ℕ → List Event
calls_of c n = replicate n (event.Client c)

-- the event is one that a caller with this number calls for: 0 is the display's
abbrev pub IsEventOf : ℕ → Event → Type 0
IsEventOf zero e = is_of_client e ≡ false
IsEventOf (suc n) e = e ≡ event.Client (suc n)

-- a gate was told of each entry that a caller made, and each is of an event of this caller
pub record HasTold (told : Call → Type 0) (t : Caller Plan Entry) : Type 0 where
  pub each : AreTold told t.number 0 (length (events_of t))
  pub own : All (IsEventOf t.number) (events_of t)

-- a call for this event is the caller's own, and this is the number of the call
pub record IsNext (t : Caller Plan Entry) (turn : ℕ) (e : Event) : Type 0 where
  pub number : turn ≡ number_of (length (events_of t) + 1)
  pub own : IsEventOf t.number e

-- the display's caller, which made so many entries
pub record IsDisplay (n : ℕ) (t : Caller Plan Entry) : Type 0 where
  pub zeroth : t.number ≡ 0
  pub made : length (events_of t) ≡ n

-- a call for this event: the caller is the same, and made one entry more, or none if the call failed
pub record Enters {E : Type 0} (old new : Caller Plan Entry) (e : Event) (result : Result (Unit {0}) E) : Type 0 where
  pub stays : Stays old new
  pub ok : OnOk result (events_of new ≡ events_of old ++ e ∷ [])
  pub err : OnErr result (events_of new ≡ events_of old)

-- a client's caller made so many more entries, each for a call of this client; if they are its
-- first, a gate was told of each
pub record MakesCalls (told : Call → Type 0) (old new : Caller Plan Entry) (n : ℕ) : Type 0 where
  pub stays : Stays old new
  pub events : events_of new ≡ events_of old ++ calls_of old.number n
  pub gated : events_of old ≡ [] → HasTold told new

-- a client's caller made so many entries in all, each for a call of this client, and a gate was
-- told of each
pub record HasCalled (told : Call → Type 0) (id : TableId) (p : Plan) (t : Caller Plan Entry) (n : ℕ) : Type 0 where
  pub client : IsClient id p t
  pub events : events_of t ≡ calls_of t.number n
  pub gated : HasTold told t
