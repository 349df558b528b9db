use Rattle.std.proofs.Common.{◌-◌}
use Rattle.vz_threads.specs.Crews.{WorksOn}
use Rattle.vz_threads.proofs.messages.take_until_idle.Given as goal

abbrev pub invariant-loop-end : goal.invariant-loop-end
invariant-loop-end g l = WorksOn (g.G.Gate.told l.gate) l.fn.end l.end

abbrev pub decreases-loop-end : goal.decreases-loop-end
decreases-loop-end g l = l.count - l.end.totals.taken
