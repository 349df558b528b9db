use Rattle.std.proofs.Common.{◌≡◌, ◌*◌}
use Rattle.vz_kernel.specs.{Lanes.AreFactors, Rows.changed_upto}
use Rattle.vz_kernel.proofs.walks.change_groups.Given as goal

abbrev pub invariant-loop-k : goal.invariant-loop-k
invariant-loop-k g l = (l.row ≡ changed_upto (g.C.Change.changed l.change) (l.k * 16) l.fn.row) × AreFactors (g.C.Change.number l.change) l.factors
