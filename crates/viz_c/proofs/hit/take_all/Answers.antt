use Rattle.viz_run.proofs.Takes.{one_tested}
use Rattle.viz_c.proofs.hit.take_all.Goals as goal

pub loop-event-preserved : goal.loop-event-preserved
loop-event-preserved c =
    let at = c.loop-event in
    one_tested c.args.events.now at.event-index _ c.args.tester.now at.tester c.turn.new.self c.loop-event-test.true at.invariant
    c.in_ok-turn.ensures.taken
