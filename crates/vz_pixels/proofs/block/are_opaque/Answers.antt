use Rattle.std.proofs.Common.{arith}
use Rattle.vz_pixels.proofs.Opaque.{all_of_them, more_of_them}
use Rattle.vz_pixels.proofs.block.are_opaque.Goals as goal

pub loop-k-preserved : goal.loop-k-preserved
loop-k-preserved c = more_of_them c.args.pixels.now c.loop-k.k c.loop-k.opaque c.is_opaque_at-opaque.result c.loop-k.invariant c.is_opaque_at-opaque.ensures

pub returns : goal.returns
returns c = all_of_them c.args.pixels.now c.loop-k.k c.loop-k.opaque (omega arith) c.loop-k.invariant
