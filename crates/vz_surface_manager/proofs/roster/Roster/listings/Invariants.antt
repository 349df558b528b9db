use Rattle.std.proofs.Common.{◌≡◌, ◌+◌, drop}
use Rattle.vz_surface_manager.specs.Rosters.{listing_count}
use Rattle.vz_surface_manager.proofs.roster.Roster.listings.Given as goal

-- those that are left are still to be counted
abbrev pub invariant-loop-k : goal.invariant-loop-k
invariant-loop-k l = l.count + listing_count (drop l.k l.self) ≡ listing_count l.self
