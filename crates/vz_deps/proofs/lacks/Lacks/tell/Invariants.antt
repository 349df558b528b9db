use Rattle.std.proofs.Common.{◌-◌}
use Rattle.vz_deps.specs.Lacking.{met_by, Meets}
use Rattle.vz_deps.proofs.Telling.{IsDone}
use Rattle.vz_deps.proofs.lacks.Lacks.tell.Given as goal

-- the last seats of the bunch are done
abbrev pub invariant-loop-k : goal.invariant-loop-k
invariant-loop-k l = Meets (met_by l.told) l.fn.self l.self × IsDone l.told l.self l.bunch (l.size - l.k)
