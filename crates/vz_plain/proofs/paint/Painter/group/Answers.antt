use Rattle.std.proofs.Common.{ℕ, ◌<◌, subst}
use Rattle.vz_plain.proofs.Rowed.{group_nowhere}
use Rattle.vz_plain.proofs.Beginning.{group_begun}
use Rattle.vz_plain.proofs.paint.Painter.group.Goals as goal

pub returns-then-here-clause-painted : goal.returns-then-here-clause-painted
returns-then-here-clause-painted c = λ row long.
    let here = c.span_of-here.result in
    group_nowhere c.args.self.now c.args.earlier.now c.args.pass.now c.args.mode c.args.opacity c.args.start here.from here.to row c.if-here.true
    (λ i low. c.span_of-here.ensures.exact i (subst (λ (n : ℕ). i < n) long low))

pub returns-clause-painted : goal.returns-clause-painted
returns-clause-painted c = λ row long.
    let here = c.span_of-here.result in
    let e = c.span_of-here.ensures in
    group_begun _ c.args.self.now c.self.view_is c.args.earlier.now c.args.pass.now c.args.mode c.args.opacity c.args.start here.from here.to c.args.count row _ _ _ _
    long e.ordered e.most e.exact c.right_of.ensures c.in_ok-row.ensures c.in_ok-path.ensures c.as_slice.ensures
