use Rattle.std.proofs.Common.{◌≡◌, map, take, drop, ◌++◌}
use Rattle.vz_sinks.specs.Relating.{take_one}
use Rattle.vz_sinks.proofs.seats.take_from.Given as goal

-- those so far are changed, and the others are as they were
abbrev pub invariant-loop-seat : goal.invariant-loop-seat
invariant-loop-seat l =
    l.seat-items ≡ map (take_one l.c) (take l.seat-index l.initial.seat-items) ++ drop l.seat-index l.initial.seat-items
