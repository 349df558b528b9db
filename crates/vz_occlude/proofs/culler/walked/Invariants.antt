use Rattle.vz_occlude.proofs.Taken.{IsWalked}
use Rattle.vz_occlude.proofs.culler.walked.Given as goal

abbrev pub invariant-loop-left : goal.invariant-loop-left
invariant-loop-left l = IsWalked l.fn.ops.items l.left l.culler

abbrev pub decreases-loop-left : goal.decreases-loop-left
decreases-loop-left l = l.left
