use Rattle.vz_plain.proofs.Entering.{named_waits}
use Rattle.vz_plain.proofs.paint.Painter.named.Goals as goal

pub returns-in_ok-group-in-Some-clause-painted : goal.returns-in_ok-group-in-Some-clause-painted
returns-in_ok-group-in-Some-clause-painted c = λ row long.
    let p = c.args.self.now in
    named_waits p c.args.passes.now c.in-Some.earlier.now c.in-Some.pass.now c.args.id c.args.mode c.args.opacity c.args.local c.in_rectangle-start.result row _
    c.in_rectangle-start.ensures (λ l d. c.in-Some.ensures.painted p c.args.mode c.args.opacity l d) (c.in_ok-group-in-Some.ensures.painted row long)
