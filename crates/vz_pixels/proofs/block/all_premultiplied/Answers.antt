use Rattle.std.proofs.Common.{◌*◌, sym, arith}
use Rattle.vz_pixels.proofs.Bytes.{row_fails, one_fails, all_more, all_hold}
use Rattle.vz_pixels.proofs.block.all_premultiplied.Goals as goal

pub returns-then-not-is_row_premultiplied : goal.returns-then-not-is_row_premultiplied
returns-then-not-is_row_premultiplied c = row_fails c.args.bytes.now (c.loop-row.row * 16) (omega arith) c.if-not-is_row_premultiplied.ensures

pub returns-then-not-is_premultiplied_at : goal.returns-then-not-is_premultiplied_at
returns-then-not-is_premultiplied_at c = one_fails c.args.bytes.now c.loop-k.k (omega arith) c.if-not-is_premultiplied_at.ensures

pub loop-k-preserved : goal.loop-k-preserved
loop-k-preserved c = all_more c.args.bytes.now c.loop-k.k c.loop-k.invariant (sym c.if-not-is_premultiplied_at.ensures)

pub returns : goal.returns
returns c = all_hold c.args.bytes.now c.loop-k.k (omega arith) c.loop-k.invariant
