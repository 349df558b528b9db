use Rattle.std.proofs.Common.{ap}
use Rattle.std.specs.Prelude.{replicate}
use Rattle.vz_kernel.proofs.lanes.factors.Goals as goal

pub returns : goal.returns
returns c = ap (replicate 32) c.factor.ensures
