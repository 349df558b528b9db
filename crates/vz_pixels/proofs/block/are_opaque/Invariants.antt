use Rattle.std.proofs.Common.{◌≡◌, take}
use Rattle.vz_pixels.specs.Block.{are_opaque}
use Rattle.vz_pixels.proofs.block.are_opaque.Given as goal

abbrev pub invariant-loop-k : goal.invariant-loop-k
invariant-loop-k l = l.opaque ≡ are_opaque (take l.k l.pixels)
