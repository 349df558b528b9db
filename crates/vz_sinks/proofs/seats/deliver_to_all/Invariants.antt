use Rattle.std.proofs.Common.{◌≡◌, map, take, drop, ◌++◌}
use Rattle.vz_rules.specs.Plan.{has_sink}
use Rattle.vz_sinks.specs.Relating.{deliver_to}
use Rattle.vz_sinks.proofs.seats.deliver_to_all.Given as goal

-- those so far are changed, and the others are as they were
abbrev pub invariant-loop-seat : goal.invariant-loop-seat
invariant-loop-seat l =
    l.seat-items ≡ map (λ s. deliver_to (has_sink l.reached s.sink) l.n s) (take l.seat-index l.initial.seat-items) ++ drop l.seat-index l.initial.seat-items
