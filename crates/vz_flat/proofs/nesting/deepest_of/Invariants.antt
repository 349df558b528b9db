use Rattle.vz_flat.proofs.Nested.{IsAfter}
use Rattle.vz_flat.proofs.nesting.deepest_of.Given as goal

abbrev pub invariant-loop-op : goal.invariant-loop-op
invariant-loop-op l = IsAfter l.nesting l.op-index l.ops
