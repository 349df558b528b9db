use Rattle.std.proofs.Common.{◌≡◌, ◌*◌, true}
use Rattle.vz_pixels.specs.Block.{premultiplied_upto}
use Rattle.vz_pixels.proofs.block.all_premultiplied.Given as goal

abbrev pub invariant-loop-row : goal.invariant-loop-row
invariant-loop-row l = premultiplied_upto l.bytes (l.row * 16) ≡ true

abbrev pub invariant-loop-k : goal.invariant-loop-k
invariant-loop-k l = premultiplied_upto l.bytes l.k ≡ true
