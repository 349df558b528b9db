use Rattle.std.proofs.Common.{◌≡◌, drop}
use Rattle.vz_hit.specs.Regions.{found, regions_of}
use Rattle.vz_hit.proofs.regions.Regions.find.Given as goal

-- the regions from here on answer what all do
abbrev pub invariant-loop-at : goal.invariant-loop-at
invariant-loop-at l = found (regions_of (drop l.at l.areas) (drop l.at l.owners)) l.p ≡ found (regions_of l.areas l.owners) l.p
