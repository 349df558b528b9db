use Rattle.std.proofs.Common.{◌∙◌}
use Rattle.vz_kernel.proofs.Wholes.{kept_by, kept_by_all}
use Rattle.vz_kernel.proofs.rows.dst_in_row.Goals as goal

pub returns-in-255 : goal.returns-in-255
returns-in-255 c = c.mix_row.ensures ∙ kept_by_all c.args.opacity c.args.src.now c.args.dst.now c.in-255.is

pub returns-in_default : goal.returns-in_default
returns-in_default c = c.mix_row-in_default.ensures ∙ kept_by c.args.opacity c.args.src.now c.args.dst.now
