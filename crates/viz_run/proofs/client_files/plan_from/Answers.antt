use Rattle.std.proofs.Common.{arith}
use Rattle.viz_run.proofs.client_files.plan_from.Goals as goal

pub new-requires-clause-some : goal.new-requires-clause-some
new-requires-clause-some c = omega (arith, c.requires.some, c.in_ok-files.ensures.count)

pub new-requires-clause-few : goal.new-requires-clause-few
new-requires-clause-few c = omega (arith, c.requires.few, c.in_ok-files.ensures.count)
