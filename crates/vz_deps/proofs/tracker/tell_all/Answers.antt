use Rattle.std.proofs.Common.{arith}
use Rattle.vz_deps.proofs.Telling.{tell_next, tell_end}
use Rattle.vz_deps.proofs.tracker.tell_all.Goals as goal

pub loop-id-preserved : goal.loop-id-preserved
loop-id-preserved c = tell_next c.args.ids.now c.loop-id.id-index _ c.loop-id-test.true _ _ _ c.loop-id.invariant.0 c.loop-id.invariant.1 c.tell.ensures.meets c.tell.ensures.rid

pub returns-clause-rid : goal.returns-clause-rid
returns-clause-rid c = tell_end c.args.ids.now c.loop-id.id-index c.loop-id.lacks (omega (arith, c.loop-id-test.false)) c.loop-id.invariant.1
