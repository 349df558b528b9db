use Rattle.std.proofs.Common.{◌≡◌, drop}
use Rattle.vz_rules.specs.Plan.{has_sink}
use Rattle.vz_sinks.specs.Relating.{holds_of}
use Rattle.vz_sinks.proofs.seats.is_attached.Given as goal

-- the answer is that of those that are left
abbrev pub invariant-loop-seat : goal.invariant-loop-seat
invariant-loop-seat l = holds_of (λ s. has_sink l.reached s.sink) l.seats l.c ≡ holds_of (λ s. has_sink l.reached s.sink) (drop l.seat-index l.seats) l.c
