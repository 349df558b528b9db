use Rattle.std.proofs.Common.{arith}
use Rattle.vz_surface_manager.proofs.Without.{due_none, due_next}
use Rattle.vz_surface_manager.proofs.waiting.clear_all.Goals as goal

pub loop-s-init : goal.loop-s-init
loop-s-init c = (due_none c.args.deadlines.now.list, omega arith)

pub loop-s-preserved : goal.loop-s-preserved
loop-s-preserved c =
    let kept = c.loop-s.invariant.1 in
    let more = c.clear.ensures.spare in
    (due_next c.args.subs.now c.loop-s.s-index _ c.args.deadlines.now.list _ _ c.loop-s-test.true c.loop-s.invariant.0 c.clear.ensures.list, omega (arith, kept, more))
