use Rattle.std.proofs.Common.{◌-◌}
use Rattle.vz_refs.specs.Lasting.{named_by, Ends}
use Rattle.vz_refs.proofs.Ending.{IsDone}
use Rattle.vz_refs.proofs.seats.Seats.end_named.Given as goal

-- the last places of the group are done
abbrev pub invariant-loop-k : goal.invariant-loop-k
invariant-loop-k l = Ends (named_by l.range) l.fn.self l.self × IsDone l.range l.self l.group (l.size - l.k)
