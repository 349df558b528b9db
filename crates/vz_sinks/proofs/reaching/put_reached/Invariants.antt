use Rattle.std.proofs.Common.{◌+◌, ◌-◌, length}
use Rattle.vz_sinks.proofs.Followed.{all_of, IsMarked}
use Rattle.vz_sinks.proofs.reaching.put_reached.Given as goal

-- those before the place have been followed
abbrev pub invariant-loop-at : goal.invariant-loop-at
invariant-loop-at l = IsMarked l.relations l.fn.from l.out.list l.at (length l.out.list + l.out.spare)

-- those that are left
abbrev pub decreases-loop-at : goal.decreases-loop-at
decreases-loop-at l = length (all_of l.relations l.fn.from) - l.at
