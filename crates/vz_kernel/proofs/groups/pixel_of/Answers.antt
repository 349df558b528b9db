use Rattle.std.proofs.Common.{◌∙◌, sym, arith}
use Rattle.vz_kernel.proofs.Sixteen.{colour_is, is_good}
use Rattle.vz_kernel.proofs.groups.pixel_of.Goals as goal

pub premultiplied-requires : goal.premultiplied-requires
premultiplied-requires c =
    let good = is_good c.args.channels.now c.args.k 16 c.told-channels c.requires.inside c.requires.good in
    (good.r, good.g, good.b)

pub returns : goal.returns
returns c = c.premultiplied.ensures ∙ sym (colour_is c.args.channels.now c.args.k (let e = c.told-channels in omega arith))
