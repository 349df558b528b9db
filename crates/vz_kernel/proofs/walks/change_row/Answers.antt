use Rattle.std.proofs.Common.{◌∙◌}
use Rattle.vz_kernel.proofs.Walked.{whole_changed}
use Rattle.vz_kernel.proofs.walks.change_row.Goals as goal

pub returns : goal.returns
returns g c =
    let f = g.C.Change.changed c.args.change.now in
    c.change_rest.ensures c.args.row.now c.change_groups.ensures ∙ whole_changed f c.args.row.now
