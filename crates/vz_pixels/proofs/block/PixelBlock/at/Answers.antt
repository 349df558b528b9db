use Rattle.std.specs.Arc.{arc_value}
use Rattle.vz_pixels.specs.Block.{Block}
use Rattle.vz_pixels.proofs.Bytes.{texel_is}
use Rattle.vz_pixels.proofs.block.PixelBlock.at.Goals as goal

pub returns : goal.returns
returns c =
    let own : Block = record { w = c.self.inside.w; h = c.self.inside.h; pixels = (arc_value c.self.inside.pixels).items } in
    texel_is own c.args.self.now c.self.view_is c.self.invariant.0 c.args.x c.args.y c.index.result.now c.requires.across c.requires.down (rw c.deref.ensures at c.index.ensures)
