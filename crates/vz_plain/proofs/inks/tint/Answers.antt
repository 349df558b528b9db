use Rattle.vz_plain.proofs.Mixed.{tint_over, tint_src, tint_dst_in}
use Rattle.vz_plain.proofs.inks.tint.Goals as goal

pub returns-in-Over-clause-long : goal.returns-in-Over-clause-long
returns-in-Over-clause-long c = (tint_over c.args.mode c.args.colour c.args.row.now c.over_fill.new.dst c.in-Over.is c.over_fill.ensures).long

pub returns-in-Over-clause-each : goal.returns-in-Over-clause-each
returns-in-Over-clause-each c = (tint_over c.args.mode c.args.colour c.args.row.now c.over_fill.new.dst c.in-Over.is c.over_fill.ensures).each

pub returns-in-Src-clause-long : goal.returns-in-Src-clause-long
returns-in-Src-clause-long c = (tint_src c.args.mode c.args.colour c.args.row.now c.fill_row.new.dst c.in-Src.is c.fill_row.ensures).long

pub returns-in-Src-clause-each : goal.returns-in-Src-clause-each
returns-in-Src-clause-each c = (tint_src c.args.mode c.args.colour c.args.row.now c.fill_row.new.dst c.in-Src.is c.fill_row.ensures).each

pub returns-in-DstIn-clause-long : goal.returns-in-DstIn-clause-long
returns-in-DstIn-clause-long c = (tint_dst_in c.args.mode c.args.colour c.args.row.now c.dst_in_fill.new.dst c.in-DstIn.is c.dst_in_fill.ensures).long

pub returns-in-DstIn-clause-each : goal.returns-in-DstIn-clause-each
returns-in-DstIn-clause-each c = (tint_dst_in c.args.mode c.args.colour c.args.row.now c.dst_in_fill.new.dst c.in-DstIn.is c.dst_in_fill.ensures).each
