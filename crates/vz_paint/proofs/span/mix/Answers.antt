use Rattle.vz_paint.proofs.Spanned.{mix_over, mix_src, mix_dst_in}
use Rattle.vz_paint.proofs.span.mix.Goals as goal

pub returns-in-Over : goal.returns-in-Over
returns-in-Over c = mix_over c.args.mode c.args.opacity c.over_row.new.dst c.args.source.now c.args.row.now c.in-Over.is c.over_row.ensures

pub returns-in-Src : goal.returns-in-Src
returns-in-Src c = mix_src c.args.mode c.args.opacity c.src_row.new.dst c.args.source.now c.args.row.now c.in-Src.is c.requires c.src_row.ensures

pub returns-in-DstIn : goal.returns-in-DstIn
returns-in-DstIn c = mix_dst_in c.args.mode c.args.opacity c.dst_in_row.new.dst c.args.source.now c.args.row.now c.in-DstIn.is c.dst_in_row.ensures
