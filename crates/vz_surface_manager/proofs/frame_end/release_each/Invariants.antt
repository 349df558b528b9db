use Rattle.std.proofs.Common.{◌≡◌, Some, drop}
use Rattle.vz_rules.specs.World.{World}
use Rattle.vz_returns.specs.Lent.{AreLent, resources_out}
use Rattle.vz_surface_manager.specs.{Flown.subs_of, Frame_end.IsLanding}
use Rattle.vz_surface_manager.proofs.frame_end.release_each.Given as goal

-- those that are left hold what they list
abbrev pub invariant-loop-k : goal.invariant-loop-k
invariant-loop-k l =
    ((w : World) → IsLanding w l.roster l.fn.lending → AreLent (record w { in_flight = Some (subs_of (drop l.k l.roster)) }) l.lending)
    × ((w : World) × IsLanding w l.roster l.fn.lending)
    × (resources_out l.lending ≡ resources_out l.fn.lending)
