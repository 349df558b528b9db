use Rattle.std.proofs.Common.{sym}
use Rattle.vz_occlude.proofs.Read_texels.{next_texel, clear_texel, no_texel, is_255, not_255}
use Rattle.vz_occlude.specs.Rows.{is_opaque_row}
use Rattle.vz_occlude.proofs.texels.is_opaque_row.Goals as goal

pub returns-then-a : goal.returns-then-a
returns-then-a c =
    sym (clear_texel c.args.block.now c.args.count c.loop-k.k c.args.column c.args.row (is_opaque_row c.args.block.now c.args.count c.args.column c.args.row)
    c.loop-k-test.true (not_255 c.a.result c.at.result _ c.a.ensures c.at.ensures c.if-a.true) c.loop-k.invariant)

pub loop-k-preserved : goal.loop-k-preserved
loop-k-preserved c =
    next_texel c.args.block.now c.args.count c.loop-k.k c.args.column c.args.row (is_opaque_row c.args.block.now c.args.count c.args.column c.args.row)
    c.loop-k-test.true (is_255 c.a.result c.at.result _ c.a.ensures c.at.ensures c.if-a.false) c.loop-k.invariant

pub returns : goal.returns
returns c =
    sym (no_texel c.args.block.now c.args.count c.args.column c.args.row (is_opaque_row c.args.block.now c.args.count c.args.column c.args.row)
    c.loop-k.k c.loop-k-test.false c.loop-k.invariant)
