use Rattle.viz_c.proofs.Cutting.{too_long, one_less, all_taken}
use Rattle.viz_c.proofs.call.fill.Goals as goal

pub returns-then-own-left : goal.returns-then-own-left
returns-then-own-left c =
    let at = c.loop-at in
    too_long c.args.lengths.now at.at c.args.bytes at.left _ c.loop-at-test.true at.invariant c.if-own-left.true

pub loop-at-preserved : goal.loop-at-preserved
loop-at-preserved c =
    let at = c.loop-at in
    one_less c.args.lengths.now at.at c.args.bytes at.left _ c.loop-at-test.true at.invariant c.if-own-left.false

pub returns : goal.returns
returns c =
    let at = c.loop-at in
    all_taken c.args.lengths.now at.at c.args.bytes at.left c.loop-at-test.false at.invariant
