use Rattle.std.proofs.Common.{◌∙◌}
use Rattle.vz_kernel.proofs.Walked.{whole}
use Rattle.vz_kernel.proofs.walks.mix_row.Goals as goal

pub returns : goal.returns
returns g c =
    let f = g.M.Mix.mixed c.args.mix.now in
    c.mix_rest.ensures c.args.dst.now c.mix_groups.ensures ∙ whole f c.args.src.now c.args.dst.now c.requires
