-- What holds once all ends are gathered.
use Rattle.std.specs.Prelude.{◌≡◌, Some, List}
use mathlib.Core.List.{IsPrefix}
use Rattle.vz_loans.specs.Rule.{places}
use Rattle.vz_rules.specs.Plan.{Plan}
use Rattle.vz_rules.specs.declared.entry.Entry.{Entry}
use Rattle.vz_desk.specs.Books.{numbered}
use Rattle.vz_desk.specs.Totals.{AreTotals, DisplayTotals, AreDisplayTotals}
use Rattle.vz_desk.specs.declared.totals.Totals.{Totals}
use Rattle.vz_desk.specs.Owners.{Owner, mine_of}

-- the history, of the owner's plan, begins with all that the owner has seen, and has no further
-- entries of the owner
pub record IsGathered {T : Type 0} (plan : Plan) (history : List Entry) (o : Owner T) : Type 0 where
  pub planned : o.plan ≡ Some plan
  pub begun : IsPrefix o.seen (numbered history)
  pub mine : places o.number (numbered history) ≡ mine_of o

-- the same for a client, whose totals are those of its entries in the history
pub record IsGatheredClient (plan : Plan) (history : List Entry) (o : Owner Totals) : Type 0 where
  pub gathered : IsGathered plan history o
  pub counted : AreTotals plan history o.number o.totals

-- the same for the display, whose totals are those of its entries in the history
pub record IsGatheredDisplay (plan : Plan) (history : List Entry) (o : Owner DisplayTotals) : Type 0 where
  pub gathered : IsGathered plan history o
  pub counted : AreDisplayTotals history o.totals
