use Rattle.std.proofs.Common.{◌≡◌, drop}
use Rattle.vz_sinks.specs.Relating.{standing}
use Rattle.vz_sinks.proofs.seats.standing.Given as goal

-- the answer is that of what is left
abbrev pub invariant-loop-seat : goal.invariant-loop-seat
invariant-loop-seat l = standing l.seats l.c ≡ standing (drop l.seat-index l.seats) l.c
