use Rattle.vz_plain.proofs.Spans.{later_first, later_second}
use Rattle.vz_plain.proofs.span.later.Goals as goal

pub returns-then-a-b : goal.returns-then-a-b
returns-then-a-b c = later_first c.args.a c.args.b c.if-a-b.true

pub returns-else-a-b : goal.returns-else-a-b
returns-else-a-b c = later_second c.args.a c.args.b c.if-a-b.false
