use Rattle.vz_plain.proofs.Rowed.{only_outside}
use Rattle.vz_plain.proofs.Showing.{shown_with}
use Rattle.vz_plain.proofs.paint.Painter.shown.Goals as goal

pub returns-then-here-clause-painted : goal.returns-then-here-clause-painted
returns-then-here-clause-painted c =
    let here = c.size_span-here.result in
    only_outside c.args.self.now c.args.range.now c.args.background c.args.submitted.now c.args.mode c.args.opacity c.args.local here.from here.to c.is_at_end-at_end.result c.args.row.now c.lay_outside.new.row
    c.if-here.true c.is_at_end-at_end.ensures c.size_span-here.ensures.exact c.lay_outside.ensures.long c.lay_outside.ensures.each

pub returns-clause-painted : goal.returns-clause-painted
returns-clause-painted c =
    let here = c.size_span-here.result in
    let e = c.size_span-here.ensures in
    shown_with c.args.self.now c.args.range.now c.args.background c.args.submitted.now c.args.mode c.args.opacity c.args.local c.right_of-first.result here.from here.to c.is_at_end-at_end.result
    c.args.row.now c.lay_outside.new.row c.content.new.row c.in_ok-inner.inner c.moved.result e.ordered e.most c.is_at_end-at_end.ensures e.exact c.lay_outside.ensures.long c.lay_outside.ensures.each
    c.right_of-first.ensures c.moved.ensures c.in_ok-inner.ensures.painted
