use Rattle.vz_sinks.specs.Relating.{close_one}
use Rattle.vz_sinks.proofs.Seated.{changed_next}
use Rattle.vz_sinks.proofs.seats.close_in.Goals as goal

pub loop-seat-preserved : goal.loop-seat-preserved
loop-seat-preserved c =
    changed_next (close_one c.args.c) c.args.seats.now c.loop-seat.seat-items c.loop-seat.seat-index _ c.close_one.new.seat c.loop-seat-test.true c.loop-seat.invariant c.close_one.ensures
