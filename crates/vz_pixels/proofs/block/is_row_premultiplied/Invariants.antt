use Rattle.std.proofs.Common.{◌≡◌, ◌&&◌}
use Rattle.vz_pixels.specs.Block.{premultiplied_upto}
use Rattle.vz_pixels.proofs.block.is_row_premultiplied.Given as goal

abbrev pub invariant-loop-k : goal.invariant-loop-k
invariant-loop-k l = premultiplied_upto l.bytes l.k ≡ (premultiplied_upto l.bytes l.from && l.good)
