use Rattle.std.proofs.Common.{sym, ◌∙◌}
use Rattle.vz_sinks.proofs.Seated.{stands_here, stands_later, stands_nowhere}
use Rattle.vz_sinks.proofs.seats.standing.Goals as goal

pub returns-then-is_of : goal.returns-then-is_of
returns-then-is_of c = stands_here c.args.seats.now c.args.c c.loop-seat.seat-index _ c.loop-seat-test.true c.loop-seat.invariant (sym c.is_of.ensures ∙ c.if-is_of.true)

pub loop-seat-preserved : goal.loop-seat-preserved
loop-seat-preserved c = stands_later c.args.seats.now c.args.c c.loop-seat.seat-index _ c.loop-seat-test.true c.loop-seat.invariant (sym c.is_of.ensures ∙ c.if-is_of.false)

pub returns : goal.returns
returns c = stands_nowhere c.args.seats.now c.args.c c.loop-seat.seat-index c.loop-seat.invariant c.loop-seat-test.false
