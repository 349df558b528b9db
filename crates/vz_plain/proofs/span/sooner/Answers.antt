use Rattle.vz_plain.proofs.Spans.{sooner_first, sooner_second}
use Rattle.vz_plain.proofs.span.sooner.Goals as goal

pub returns-then-a-b-clause-exact : goal.returns-then-a-b-clause-exact
returns-then-a-b-clause-exact c = sooner_first c.args.a c.args.b c.if-a-b.true

pub returns-else-a-b-clause-exact : goal.returns-else-a-b-clause-exact
returns-else-a-b-clause-exact c = sooner_second c.args.a c.args.b c.if-a-b.false
