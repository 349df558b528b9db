use Rattle.std.proofs.Common.{arith}
use Rattle.vz_deps.specs.Lacking.{unmet_in}
use Rattle.vz_deps.proofs.Tracked.{none_tracked, none_listed}
use Rattle.vz_deps.proofs.tracker.Tracker.new.Goals as goal

pub invariant_of-result : goal.invariant_of-result
invariant_of-result c = (none_tracked _ _ _ c.new.ensures.empty c.new-2.ensures.empty c.new-3.ensures.kept c.new-3.ensures.counts c.new-3.ensures.freed, omega arith)

pub returns : goal.returns
returns c = none_listed (unmet_in c.new-3.result) _ c.new.ensures.empty
