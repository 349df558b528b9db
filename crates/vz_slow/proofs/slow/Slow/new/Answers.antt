use Rattle.vz_slow.proofs.Reaching.{slow_opening, opening_view}
use Rattle.vz_slow.proofs.slow.Slow.new.Goals as goal

pub invariant_of-result : goal.invariant_of-result
invariant_of-result c = slow_opening c.args.plan.now c.new.result c.new-2.result c.new-3.result c.files.ensures.kept c.new.ensures c.new-2.ensures

pub returns : goal.returns
returns c = opening_view c.args.plan.now
