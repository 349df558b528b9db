use Rattle.std.proofs.Common.{sym, ◌∙◌}
use Rattle.vz_ids.specs.Ids.{same_sink}
use Rattle.vz_sinks.specs.Relating.{is_own}
use Rattle.vz_sinks.proofs.Seated.{test_found, test_next, test_end}
use Rattle.vz_sinks.proofs.seats.is_own.Goals as goal

pub returns-then-is_of : goal.returns-then-is_of
unfolding is_own
returns-then-is_of c =
    c.is_same.ensures ∙ test_found c.args.seats.now c.args.c c.loop-seat.seat-index _ c.loop-seat-test.true (λ s. same_sink c.args.sink.now s.sink) c.loop-seat.invariant (sym c.is_of.ensures ∙ c.if-is_of.true)

pub loop-seat-preserved : goal.loop-seat-preserved
unfolding is_own
loop-seat-preserved c =
    test_next c.args.seats.now c.args.c c.loop-seat.seat-index _ c.loop-seat-test.true (λ s. same_sink c.args.sink.now s.sink) c.loop-seat.invariant (sym c.is_of.ensures ∙ c.if-is_of.false)

pub returns : goal.returns
unfolding is_own
returns c = test_end c.args.seats.now c.args.c c.loop-seat.seat-index (λ s. same_sink c.args.sink.now s.sink) c.loop-seat.invariant c.loop-seat-test.false
