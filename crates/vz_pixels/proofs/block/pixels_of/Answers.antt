use Rattle.std.proofs.Common.{◌∙◌, arith}
use Rattle.vz_pixels.proofs.Bytes.{one_of_all, all_is, whole_is, pushed}
use Rattle.vz_pixels.proofs.block.pixels_of.Goals as goal

pub pixel_at-requires-clause-good : goal.pixel_at-requires-clause-good
pixel_at-requires-clause-good c = one_of_all c.args.bytes.now c.loop-k.k _ c.loop-k-test.true (all_is c.args.bytes.now _ (omega arith) ∙ c.requires)

pub loop-k-preserved : goal.loop-k-preserved
loop-k-preserved c =
    let items = pushed c.args.bytes.now c.loop-k.k c.loop-k.pixels.items c.push_reserved.new.self.items c.pixel_at.result c.loop-k.invariant.0 c.pixel_at.ensures c.push_reserved.ensures.items in
    let len = c.push_reserved.ensures.len in
    let room = c.push_reserved.ensures.capacity in
    let before = c.loop-k.invariant.1 in
    (items, grind arith, grind arith)

pub returns : goal.returns
returns c = c.loop-k.invariant.0 ∙ whole_is c.args.bytes.now c.loop-k.k (omega arith)
