use Rattle.vz_paint.proofs.Spanned.{tint_over, tint_src, tint_dst_in}
use Rattle.vz_paint.proofs.span.tint.Goals as goal

pub returns-in-Over : goal.returns-in-Over
returns-in-Over c = tint_over c.args.mode c.args.color c.over_fill.new.dst c.args.row.now c.in-Over.is c.over_fill.ensures

pub returns-in-Src : goal.returns-in-Src
returns-in-Src c = tint_src c.args.mode c.args.color c.fill_row.new.dst c.args.row.now c.in-Src.is c.fill_row.ensures

pub returns-in-DstIn : goal.returns-in-DstIn
returns-in-DstIn c = tint_dst_in c.args.mode c.args.color c.dst_in_fill.new.dst c.args.row.now c.in-DstIn.is c.dst_in_fill.ensures
