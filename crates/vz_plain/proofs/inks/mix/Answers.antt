use Rattle.vz_plain.proofs.Mixed.{mix_over, mix_src, mix_dst_in}
use Rattle.vz_plain.proofs.inks.mix.Goals as goal

pub returns-in-Over-clause-long : goal.returns-in-Over-clause-long
returns-in-Over-clause-long c =
    (mix_over c.args.mode c.args.opacity c.args.source.now c.args.row.now c.over_row.new.dst c.requires c.in-Over.is c.over_row.ensures).long

pub returns-in-Over-clause-each : goal.returns-in-Over-clause-each
returns-in-Over-clause-each c =
    (mix_over c.args.mode c.args.opacity c.args.source.now c.args.row.now c.over_row.new.dst c.requires c.in-Over.is c.over_row.ensures).each

pub returns-in-Src-clause-long : goal.returns-in-Src-clause-long
returns-in-Src-clause-long c =
    (mix_src c.args.mode c.args.opacity c.args.source.now c.args.row.now c.src_row.new.dst c.requires c.in-Src.is c.src_row.ensures).long

pub returns-in-Src-clause-each : goal.returns-in-Src-clause-each
returns-in-Src-clause-each c =
    (mix_src c.args.mode c.args.opacity c.args.source.now c.args.row.now c.src_row.new.dst c.requires c.in-Src.is c.src_row.ensures).each

pub returns-in-DstIn-clause-long : goal.returns-in-DstIn-clause-long
returns-in-DstIn-clause-long c =
    (mix_dst_in c.args.mode c.args.opacity c.args.source.now c.args.row.now c.dst_in_row.new.dst c.requires c.in-DstIn.is c.dst_in_row.ensures).long

pub returns-in-DstIn-clause-each : goal.returns-in-DstIn-clause-each
returns-in-DstIn-clause-each c =
    (mix_dst_in c.args.mode c.args.opacity c.args.source.now c.args.row.now c.dst_in_row.new.dst c.requires c.in-DstIn.is c.dst_in_row.ensures).each
