use Rattle.std.proofs.Common.{arith}
use Rattle.vz_surface_manager.proofs.Without.{blocked_none, blocked_next}
use Rattle.vz_surface_manager.proofs.waiting.forget_all.Goals as goal

pub loop-s-init : goal.loop-s-init
loop-s-init c = (blocked_none c.args.tracker.now.list, omega arith)

pub loop-s-preserved : goal.loop-s-preserved
loop-s-preserved c =
    let kept = c.loop-s.invariant.1 in
    let more = c.forget.ensures.spare in
    (blocked_next c.args.subs.now c.loop-s.s-index _ c.args.tracker.now.list _ _ c.loop-s-test.true c.loop-s.invariant.0 c.forget.ensures.list, omega (arith, kept, more))
