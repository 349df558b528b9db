use Rattle.std.proofs.Common.{◌∙◌, ◌*◌, sym, ap, Ok, length, take, arith}
use Rattle.vz_pixels.specs.Block.{Block, is_block_size}
use Rattle.vz_codec.proofs.Texels.{block_there}
use Rattle.vz_codec.proofs.messages.read_texels.Goals as goal

-- the bytes are there and premultiplied
pub returns-in-Ok-clause-pixels : goal.returns-in-Ok-clause-pixels
returns-in-Ok-clause-pixels c =
    let n = c.args.w * c.args.h in
    let sized = is_block_size c.args.w c.args.h (length (take (4 * n) c.rest.result.now)) in
    block_there c.args.input.now c.rest.result.now n c.of_bytes.result c.in-Ok.block sized c.rest.ensures
    (omega (arith, c.if-left-size.false, c.left.ensures)) c.in-Ok.is c.of_bytes.ensures.bad_size
    c.of_bytes.ensures.not_premultiplied (ap (λ (b : Block). b.pixels) c.in-Ok.ensures.ok)
    ∙ ap (λ xs. Ok (c.in-Ok.block.pixels, xs)) (sym c.skip.ensures)
