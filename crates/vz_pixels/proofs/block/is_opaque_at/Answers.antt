use Rattle.std.proofs.Common.{ℕ, ap, sym, ◌∙◌, ◌&&◌, ◌==◌, take}
use Rattle.vz_pixels.specs.Colour.{Colour}
use Rattle.vz_pixels.specs.Block.{are_opaque}
use Rattle.vz_pixels.proofs.Opaque.{one_more}
use Rattle.vz_pixels.proofs.block.is_opaque_at.Goals as goal

pub returns : goal.returns
returns c =
    one_more c.index-pixels-k.result c.args.pixels.now c.args.k c.requires
    ∙ ap (λ (n : ℕ). are_opaque (take c.args.k c.args.pixels.now) && (n == 255)) (ap (λ (p : Colour). p.a) (sym c.index-pixels-k.is) ∙ sym c.a.ensures)
