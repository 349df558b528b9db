use Rattle.std.proofs.Common.{◌∙◌, arith}
use Rattle.vz_sinks.proofs.Seated.{seated_next, seated_all}
use Rattle.vz_sinks.proofs.seats.put_seats.Goals as goal

pub loop-sink-preserved : goal.loop-sink-preserved
loop-sink-preserved c =
    let l = c.loop-sink in (
      seated_next l.seats.items c.push_reserved.new.self.items _ c.args.sinks.now l.number l.sink-index _ c.loop-sink-test.true l.invariant.0 c.push_reserved.ensures.items,
      omega (arith, l.invariant.1),
      omega (arith, l.invariant.2, c.push_reserved.ensures.len),
      c.push_reserved.ensures.capacity ∙ l.invariant.3,
    )

pub returns : goal.returns
returns c = seated_all c.loop-sink.seats.items _ c.args.sinks.now c.loop-sink.number c.loop-sink.sink-index c.loop-sink-test.false c.loop-sink.invariant.0
