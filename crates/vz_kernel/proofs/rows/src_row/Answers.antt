use Rattle.std.proofs.Common.{◌∙◌}
use Rattle.vz_kernel.proofs.Wholes.{put_by_all, put_by}
use Rattle.vz_kernel.proofs.rows.src_row.Goals as goal

pub returns-then-opacity-eq255 : goal.returns-then-opacity-eq255
returns-then-opacity-eq255 c = c.copy_from_slice.ensures.after ∙ put_by_all c.args.opacity c.args.src.now c.if-opacity-eq255.true

pub returns-else-opacity-eq255 : goal.returns-else-opacity-eq255
returns-else-opacity-eq255 c = c.mix_row.ensures ∙ put_by c.args.opacity c.args.src.now c.args.dst.now c.requires
