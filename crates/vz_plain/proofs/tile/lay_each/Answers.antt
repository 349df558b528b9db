use Rattle.std.proofs.Common.{◌+◌, Some, ap, ◌∙◌, arith}
use Rattle.vz_frame.specs.Blending.{laid}
use Rattle.vz_rules.specs.Paint.{texel_of}
use Rattle.vz_plain.specs.Rows.{right_of}
use Rattle.vz_plain.proofs.Parted.{none_laid, one_laid, all_laid}
use Rattle.vz_plain.proofs.tile.lay_each.Goals as goal

pub loop-k-init : goal.loop-k-init
loop-k-init c = none_laid (λ i d. laid c.args.mode (texel_of (Some c.args.block.now) (right_of c.args.first i)) c.args.opacity d) c.args.row.now

pub loop-k-preserved : goal.loop-k-preserved
loop-k-preserved c =
    let long = c.loop-k.invariant.long in
    let test = c.loop-k-test.true in
    one_laid (λ i d. laid c.args.mode (texel_of (Some c.args.block.now) (right_of c.args.first i)) c.args.opacity d) c.loop-k.k (c.loop-k.k + 1) c.args.row.now c.loop-k.row c.index-row-k.result c.laid.result
    (omega arith) (omega (arith, long, test)) c.index-row-k.is (c.laid.ensures ∙ ap (λ s. laid c.args.mode s c.args.opacity c.index-row-k.result) c.texel_at.ensures) c.loop-k.invariant

pub returns-clause-each : goal.returns-clause-each
returns-clause-each c =
    all_laid (λ i d. laid c.args.mode (texel_of (Some c.args.block.now) (right_of c.args.first i)) c.args.opacity d) c.loop-k.k c.args.row.now c.loop-k.row (omega arith) c.loop-k.invariant
