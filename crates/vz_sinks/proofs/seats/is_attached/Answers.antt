use Rattle.std.proofs.Common.{sym, ◌∙◌}
use Rattle.vz_rules.specs.Plan.{has_sink}
use Rattle.vz_sinks.proofs.Seated.{test_found, test_next, test_end}
use Rattle.vz_sinks.proofs.seats.is_attached.Goals as goal

pub returns-then-is_of : goal.returns-then-is_of
returns-then-is_of c =
    c.has_sink.ensures ∙ test_found c.args.seats.now c.args.c c.loop-seat.seat-index _ c.loop-seat-test.true (λ s. has_sink c.args.reached.now s.sink) c.loop-seat.invariant (sym c.is_of.ensures ∙ c.if-is_of.true)

pub loop-seat-preserved : goal.loop-seat-preserved
loop-seat-preserved c =
    test_next c.args.seats.now c.args.c c.loop-seat.seat-index _ c.loop-seat-test.true (λ s. has_sink c.args.reached.now s.sink) c.loop-seat.invariant (sym c.is_of.ensures ∙ c.if-is_of.false)

pub returns : goal.returns
returns c = test_end c.args.seats.now c.args.c c.loop-seat.seat-index (λ s. has_sink c.args.reached.now s.sink) c.loop-seat.invariant c.loop-seat-test.false
