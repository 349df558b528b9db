use Rattle.vz_plain.proofs.Spans.{shared_by, none_shared}
use Rattle.vz_plain.proofs.span.meet.Goals as goal

pub returns-then-to-from-clause-exact : goal.returns-then-to-from-clause-exact
returns-then-to-from-clause-exact c = none_shared c.args.a c.args.b c.later-from.result c.sooner-to.result c.later-from.ensures c.sooner-to.ensures.exact c.if-to-from.true

pub returns-clause-exact : goal.returns-clause-exact
returns-clause-exact c = shared_by c.args.a c.args.b c.later-from.result c.sooner-to.result c.later-from.ensures c.sooner-to.ensures.exact
