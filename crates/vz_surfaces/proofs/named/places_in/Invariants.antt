use Rattle.std.proofs.Common.{◌≡◌, take}
use Rattle.vz_surfaces.specs.Names.{places_in}
use Rattle.vz_surfaces.proofs.named.places_in.Given as goal

abbrev pub invariant-loop-quad : goal.invariant-loop-quad
invariant-loop-quad l = l.places.items ≡ places_in l.fn.frame l.fn.pass (take l.quad-index l.fn.quads)
