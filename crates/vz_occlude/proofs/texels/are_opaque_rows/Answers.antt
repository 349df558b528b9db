use Rattle.std.proofs.Common.{sym, ◌∙◌}
use Rattle.vz_occlude.proofs.Read_texels.{next_row, clear_row, no_row}
use Rattle.vz_occlude.specs.Rows.{are_opaque_rows}
use Rattle.vz_occlude.proofs.texels.are_opaque_rows.Goals as goal

pub returns-then-not-is_opaque_row : goal.returns-then-not-is_opaque_row
returns-then-not-is_opaque_row c =
    sym (clear_row c.args.block.now c.args.count c.loop-k.k c.args.width c.args.column c.args.row (are_opaque_rows c.args.block.now c.args.count c.args.width c.args.column c.args.row)
    c.loop-k-test.true (sym c.is_opaque_row.ensures ∙ c.if-not-is_opaque_row.true) c.loop-k.invariant)

pub loop-k-preserved : goal.loop-k-preserved
loop-k-preserved c =
    next_row c.args.block.now c.args.count c.loop-k.k c.args.width c.args.column c.args.row (are_opaque_rows c.args.block.now c.args.count c.args.width c.args.column c.args.row)
    c.loop-k-test.true (sym c.is_opaque_row.ensures ∙ c.if-not-is_opaque_row.false) c.loop-k.invariant

pub returns : goal.returns
returns c =
    sym (no_row c.args.block.now c.args.count c.args.width c.args.column c.args.row (are_opaque_rows c.args.block.now c.args.count c.args.width c.args.column c.args.row)
    c.loop-k.k c.loop-k-test.false c.loop-k.invariant)
