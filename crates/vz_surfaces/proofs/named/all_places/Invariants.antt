use Rattle.vz_surfaces.proofs.Leading.{AreNamedTo}
use Rattle.vz_surfaces.proofs.named.all_places.Given as goal

abbrev pub invariant-loop-k : goal.invariant-loop-k
invariant-loop-k l = AreNamedTo l.fn.frame l.k l.places.items
