use Rattle.std.proofs.Common.{◌≡◌, drop}
use Rattle.std.specs.List.{list_any}
use Rattle.vz_ids.specs.Ids.{same_sink}
use Rattle.vz_sinks.proofs.seats.is_known.Given as goal

-- the answer is that of those that are left
abbrev pub invariant-loop-seat : goal.invariant-loop-seat
invariant-loop-seat l = list_any (λ s. same_sink s.sink l.sink) l.seats ≡ list_any (λ s. same_sink s.sink l.sink) (drop l.seat-index l.seats)
