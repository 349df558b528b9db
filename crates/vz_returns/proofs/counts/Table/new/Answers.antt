use Rattle.std.proofs.Common.{ap}
use Rattle.vz_returns.specs.Ordered.{in_order}
use Rattle.vz_returns.proofs.counts.Table.new.Goals as goal

pub returns : goal.returns
unfolding in_order
returns c = ap in_order c.new.ensures.empty
