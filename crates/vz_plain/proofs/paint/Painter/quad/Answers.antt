use Rattle.std.proofs.Common.{arith}
use Rattle.vz_plain.proofs.Showing.{quad_with}
use Rattle.vz_plain.proofs.paint.Painter.quad.Goals as goal

pub returns-in_ok-inner-in-Some-clause-painted : goal.returns-in_ok-inner-in-Some-clause-painted
returns-in_ok-inner-in-Some-clause-painted c =
    let here = c.covered-here.result in
    let e = c.covered-here.ensures in
    quad_with c.args.self.now c.args.earlier.now c.args.pass.now c.args.quad.now c.args.start c.right_of-first.result here.from here.to c.args.row.now c.material.new.row c.in_ok-inner-in-Some.inner c.moved.result
    (let some = c.if-here.false in omega (arith, some)) e.most e.exact c.right_of-first.ensures c.moved.ensures c.in_ok-inner-in-Some.ensures.painted
