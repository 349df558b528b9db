use Rattle.std.proofs.Common.{◌∙◌, sym}
use Rattle.vz_pixels.proofs.Bytes.{makes_block}
use Rattle.vz_pixels.proofs.block.PixelBlock.of_bytes.Goals as goal

pub of_pixels-requires : goal.of_pixels-requires
of_pixels-requires c =
    makes_block c.args.w c.args.h c.args.bytes.now c.in_ok-pixels.pixels.items (sym c.has_size.ensures ∙ c.if-not-has_size.false) c.in_ok-pixels.ensures
