use Rattle.std.proofs.Common.{◌≡◌, map, take, drop, ◌++◌}
use Rattle.vz_deadlines.proofs.Freed.{forgotten}
use Rattle.vz_deadlines.proofs.slots.forget_ticks.Given as goal

-- those so far know nothing, and the others are as they were
abbrev pub invariant-loop-slot : goal.invariant-loop-slot
invariant-loop-slot l = l.slot-items ≡ map forgotten (take l.slot-index l.initial.slot-items) ++ drop l.slot-index l.initial.slot-items
