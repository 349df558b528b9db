use Rattle.std.proofs.Common.{◌-◌}
use Rattle.vz_slow.specs.Asked.{AreFew}
use Rattle.vz_slow.proofs.Attaching.{IsMarked}
use Rattle.vz_slow.proofs.attached.reached.Given as goal

-- those before the place have been followed
abbrev pub invariant-loop-at : goal.invariant-loop-at
invariant-loop-at l = (few : AreFew l.relations l.fn.from) → IsMarked l.relations l.fn.from few l.sinks l.at

-- those that are left
abbrev pub decreases-loop-at : goal.decreases-loop-at
decreases-loop-at l = 16 - l.at
