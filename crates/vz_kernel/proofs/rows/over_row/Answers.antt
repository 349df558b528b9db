use Rattle.std.proofs.Common.{◌∙◌}
use Rattle.vz_kernel.proofs.Wholes.{over_by_none, over_by_all, over_by}
use Rattle.vz_kernel.proofs.rows.over_row.Goals as goal

pub returns-in-0 : goal.returns-in-0
returns-in-0 c = over_by_none c.args.opacity c.args.src.now c.args.dst.now c.in-0.is c.requires

pub returns-in-255 : goal.returns-in-255
returns-in-255 c = c.mix_row.ensures ∙ over_by_all c.args.opacity c.args.src.now c.args.dst.now c.in-255.is

pub returns-in_default : goal.returns-in_default
returns-in_default c = c.mix_row-in_default.ensures ∙ over_by c.args.opacity c.args.src.now c.args.dst.now
