use Rattle.std.proofs.Common.{◌≡◌, ℕ, Some, take, drop}
use Rattle.vz_rules.specs.{Plan.Plan, World.World}
use Rattle.vz_returns.specs.Lent.{AreLent, HasPlaces, NoneReleased, resources_out}
use Rattle.vz_surface_manager.specs.{Flown.subs_of, Rosters.listing_count, Drawn_frame.IsLifting}
use Rattle.vz_surface_manager.proofs.drawn_frame.hold_each.Given as goal

-- those so far hold what they list, and there are places for the others
abbrev pub invariant-loop-k : goal.invariant-loop-k
invariant-loop-k l =
    ((p : Plan) (w : World) → IsLifting p w l.roster l.fn.lending
    → AreLent (record w { in_flight = Some (subs_of (take l.k l.roster)) }) l.lending)
    × ((p : Plan) × (w : World) × IsLifting p w l.roster l.fn.lending)
    × ((client : ℕ) → HasPlaces (listing_count (drop l.k l.roster)) client l.lending)
    × NoneReleased l.lending
    × (resources_out l.lending ≡ resources_out l.fn.lending)
