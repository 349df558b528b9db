use Rattle.vz_pixels.proofs.Bytes.{row_more}
use Rattle.vz_pixels.proofs.block.is_row_premultiplied.Goals as goal

pub loop-k-preserved : goal.loop-k-preserved
loop-k-preserved c = row_more c.args.bytes.now c.args.from c.loop-k.k c.loop-k.good c.is_premultiplied_at-good.result c.loop-k.invariant c.is_premultiplied_at-good.ensures
