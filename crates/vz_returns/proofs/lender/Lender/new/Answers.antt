use Rattle.std.proofs.Common.{ap, sym, arith}
use Rattle.vz_returns.specs.{Held.is_rising, Lent.all_alive}
use Rattle.vz_returns.proofs.lender.Lender.new.Goals as goal

pub invariant_of-result : goal.invariant_of-result
unfolding all_alive is_rising
invariant_of-result c = (sym (ap all_alive c.new.ensures.counted), omega arith, ap is_rising c.new.ensures.counted)
