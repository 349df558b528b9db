use Rattle.std.proofs.Common.{ap, ◌∙◌}
use Rattle.vz_pixels.specs.Colour.{black, over, scale}
use Rattle.vz_paint.proofs.Grounded.{over_black, src_black, dst_in_black}
use Rattle.vz_paint.proofs.ground.on_black.Goals as goal

pub returns-in-Over : goal.returns-in-Over
returns-in-Over c =
    over_black c.args.mode c.args.color c.args.opacity c.shade-own.result c.over.result c.in-Over.is c.shade-own.ensures
    (c.over.ensures ∙ ap (over c.shade-own.result) c.black.ensures)

pub returns-in-Src : goal.returns-in-Src
returns-in-Src c = src_black c.args.mode c.args.color c.args.opacity c.shade-own.result c.in-Src.is c.shade-own.ensures

pub returns-in-DstIn : goal.returns-in-DstIn
returns-in-DstIn c =
    dst_in_black c.args.mode c.args.color c.args.opacity c.shade-own.result c.scale.result c.in-DstIn.is c.shade-own.ensures
    (c.scale.ensures ∙ ap (λ d. scale d c.a.result) c.black-in-DstIn.ensures ∙ ap (scale black) c.a.ensures)
