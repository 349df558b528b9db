use Rattle.std.proofs.Common.{◌≡◌, ◌+◌, ◌++◌, drop, vec_len, vec_capacity}
use Rattle.vz_sinks.specs.Relating.{seats_from}
use Rattle.vz_sinks.proofs.seats.put_seats.Given as goal

-- those that are left come behind those that are in, and so much room there is
abbrev pub invariant-loop-sink : goal.invariant-loop-sink
invariant-loop-sink l =
    (l.seats.items ++ seats_from l.number (drop l.sink-index l.sinks) ≡ seats_from 1 l.sinks)
    × (l.number ≡ l.sink-index + 1)
    × (vec_len l.seats ≡ vec_len l.fn.seats + l.sink-index)
    × (vec_capacity l.seats ≡ vec_capacity l.fn.seats)
