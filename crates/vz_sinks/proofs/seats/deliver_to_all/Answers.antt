use Rattle.vz_rules.specs.Plan.{has_sink}
use Rattle.vz_sinks.specs.Relating.{deliver_to}
use Rattle.vz_sinks.proofs.Seated.{changed_next}
use Rattle.vz_sinks.proofs.seats.deliver_to_all.Goals as goal

pub loop-seat-preserved : goal.loop-seat-preserved
loop-seat-preserved c =
    changed_next (λ s. deliver_to (has_sink c.args.reached.now s.sink) c.args.n s) c.args.seats.now c.loop-seat.seat-items c.loop-seat.seat-index _ c.deliver.new.seat c.loop-seat-test.true c.loop-seat.invariant c.deliver.ensures
