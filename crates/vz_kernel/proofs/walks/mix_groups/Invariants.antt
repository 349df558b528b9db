use Rattle.std.proofs.Common.{◌≡◌, ◌*◌}
use Rattle.vz_kernel.specs.{Lanes.AreFactors, Rows.mixed_upto}
use Rattle.vz_kernel.proofs.walks.mix_groups.Given as goal

abbrev pub invariant-loop-k : goal.invariant-loop-k
invariant-loop-k g l = (l.dst ≡ mixed_upto (g.M.Mix.mixed l.mix) (l.k * 16) l.src l.fn.dst) × AreFactors (g.M.Mix.number l.mix) l.factors
