use Rattle.std.proofs.Common.{sym}
use Rattle.vz_flat.proofs.Nested.{at_start, one_more, at_end, left_open, split, all_dropped}
use Rattle.vz_flat.proofs.nesting.deepest_of.Goals as goal

pub loop-op-init : goal.loop-op-init
loop-op-init c = at_start c.args.ops.now

pub loop-op-preserved : goal.loop-op-preserved
loop-op-preserved c =
    one_more c.loop-op.nesting c.in_ok-nesting.nesting c.op-item.result c.loop-op.op-index c.args.ops.now
    (split c.args.ops.now c.loop-op.op-index c.op-item.result c.op-item.result c.loop-op-test.true (sym c.op-item.is)) c.loop-op.invariant c.in_ok-nesting.ensures

pub returns-then-nesting-eq0 : goal.returns-then-nesting-eq0
returns-then-nesting-eq0 c =
    at_end c.loop-op.nesting c.loop-op.op-index c.args.ops.now (all_dropped c.args.ops.now c.loop-op.op-index c.loop-op-test.false) c.loop-op.invariant c.if-nesting-eq0.true

pub returns-else-nesting-eq0 : goal.returns-else-nesting-eq0
returns-else-nesting-eq0 c =
    left_open c.loop-op.nesting c.loop-op.op-index c.args.ops.now (all_dropped c.args.ops.now c.loop-op.op-index c.loop-op-test.false) c.loop-op.invariant c.if-nesting-eq0.false
