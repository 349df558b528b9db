use Rattle.vz_deadlines.proofs.Stands.{AreTaken}
use Rattle.vz_deadlines.proofs.walk.take_each.Given as goal

-- those that are due so far are in, and their slots are free
abbrev pub invariant-loop-slot : goal.invariant-loop-slot
invariant-loop-slot l = AreTaken l.tick l.initial.slot-items l.slot-items l.slot-index l.least l.fn.out.list l.fn.out.spare l.out.list l.out.spare
