use Rattle.std.proofs.Common.{length}
use Rattle.vz_returns.specs.Held.{from_on}
use Rattle.vz_returns.proofs.Least.{ArePut}
use Rattle.vz_returns.proofs.counts.Table.put_all.Given as goal

-- those before are in, and there is room for the rest
abbrev pub invariant-loop-id : goal.invariant-loop-id
invariant-loop-id l = ArePut l.client l.self.list l.fn.out.list l.fn.out.spare l.from l.out.list l.out.spare

-- those that are left
abbrev pub decreases-loop-id : goal.decreases-loop-id
decreases-loop-id l = length (from_on l.from l.self.list)
