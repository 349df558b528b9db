-- What contracts see in an end of a desk: the plan, the history up to the owner's last turn, and its totals.
use Rattle.std.specs.Prelude.{◌≡◌, ℕ, zero, suc, ◌+◌, ◌<◌, ◌≤◌, false, List, [], ◌∷◌, ◌++◌, length, Option, Some}
use mathlib.Core.List.{IsPrefix}
use Rattle.atomic_table.specs.Seated.{TableId}
use Rattle.vz_loans.specs.Rule.{places}
use Rattle.vz_loans.specs.Tokens.{Caller}
use Rattle.vz_rules.specs.Plan.{Plan}
use Rattle.vz_rules.specs.declared.entry.Event.{Event}
use Rattle.vz_rules.specs.declared.entry.Entry.{Entry}
use Rattle.vz_rules.specs.Step.{entry_in, world, Legal}
use Rattle.vz_desk.specs.Books.{numbered}
use Rattle.vz_desk.specs.declared.totals.Totals.{Totals}
use Rattle.vz_desk.specs.Totals.{no_totals, AreTotals, DisplayTotals, AreDisplayTotals}

-- the end of a caller: its desk, the plan, its number, the history up to its last turn, and its
-- totals
pub record Owner (T : Type 0) : Type 0 where
  pub desk : TableId
  pub plan : Option Plan
  pub number : ℕ
  pub seen : List (ℕ × Entry)
  pub totals : T

-- the places of the owner's entries in what it has seen, counted from 1
abbrev pub mine_of : {T : Type 0} → Owner T → List ℕ
mine_of o = places o.number o.seen

abbrev pub owner_of : {T : Type 0} → Caller Plan Entry → T → Owner T
owner_of t totals = record { desk = t.lock; plan = t.plan; number = t.number; seen = t.seen; totals = totals }

-- what an owner has seen is a legal history of its plan
pub record HasSeen {T : Type 0} (o : Owner T) (plan : Plan) (h : List Entry) : Type 0 where
  pub planned : o.plan ≡ Some plan
  pub seen : o.seen ≡ numbered h
  pub legal : Legal plan h

-- a client's end: its token is not in a turn, and its totals are those of its entries
pub record IsEnd (t : Caller Plan Entry) (totals : Totals) : Type 0 where
  pub rests : t.inside ≡ false
  pub plan : Plan
  pub history : List Entry
  pub sees : HasSeen (owner_of t totals) plan history
  pub client : (0 < t.number) × (t.number ≤ length plan.files)
  pub counted : AreTotals plan history t.number totals

-- what a client's end represents: a legal history of its plan, which has that client, and the
-- totals of the client's entries there
pub record Stands (o : Owner Totals) : Type 0 where
  pub plan : Plan
  pub history : List Entry
  pub sees : HasSeen o plan history
  pub client : (0 < o.number) × (o.number ≤ length plan.files)
  pub counted : AreTotals plan history o.number o.totals

-- the display's end: its token has the number 0 and is not in a turn, and its totals are those of
-- the display's entries
pub record IsDisplayEnd (t : Caller Plan Entry) (totals : DisplayTotals) : Type 0 where
  pub rests : t.inside ≡ false
  pub display : t.number ≡ 0
  pub plan : Plan
  pub history : List Entry
  pub sees : HasSeen (owner_of t totals) plan history
  pub counted : AreDisplayTotals history totals

-- an owner before its first call
abbrev pub fresh : {T : Type 0} → TableId → Plan → T → ℕ → Owner T
fresh id plan totals number = record { desk = id; plan = Some plan; number = number; seen = []; totals = totals }

-- a token of a plan that is not in a turn and has seen no entry
pub record IsPlanned (t : Caller Plan Entry) : Type 0 where
  pub plan : Plan
  pub planned : t.plan ≡ Some plan
  pub seen : t.seen ≡ []
  pub rests : t.inside ≡ false

-- the same, for a client's token
pub record IsUnused (t : Caller Plan Entry) : Type 0 where
  pub begins : IsPlanned t
  pub client : (0 < t.number) × (t.number ≤ length begins.plan.files)

-- the ends of so many clients before their first calls, numbered from k
abbrev pub fresh_from : TableId → Plan → ℕ → ℕ → List (Owner Totals)
fresh_from id plan k zero = []
fresh_from id plan k (suc count) = fresh id plan no_totals k ∷ fresh_from id plan (k + 1) count

-- the end belongs to the same caller of the same desk, and it has seen at least as much
pub record IsSameOwner {T : Type 0} (old new : Owner T) : Type 0 where
  pub desk : new.desk ≡ old.desk
  pub plan : new.plan ≡ old.plan
  pub number : new.number ≡ old.number
  pub later : IsPrefix old.seen new.seen

-- a call made one entry, for this event: it is the last entry that the owner has seen, and its
-- place is now among the owner's
pub record Makes {T : Type 0} (old new : Owner T) (e : Event) (plan : Plan) (before : List Entry) (made : Entry) : Type 0 where
  pub planned : new.plan ≡ Some plan
  pub legal : Legal plan before
  pub later : IsPrefix old.seen (numbered before)
  pub entry : made ≡ entry_in plan (world plan before) e
  pub seen : new.seen ≡ numbered (before ++ made ∷ [])
  pub mine : mine_of new ≡ mine_of old ++ (length before + 1) ∷ []

-- a call made no entry: the owner's places and totals do not change
pub record MakesNone {T : Type 0} (old new : Owner T) : Type 0 where
  pub mine : mine_of new ≡ mine_of old
  pub totals : new.totals ≡ old.totals
