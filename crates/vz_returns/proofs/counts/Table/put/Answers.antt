use Rattle.std.proofs.Common.{length, ap, ◌∙◌, arith}
use Rattle.vz_returns.specs.{Held.put_in, Ordered.counted_of, Ordered.in_order}
use Rattle.vz_returns.proofs.Orders.{order_put, put_more}
use Rattle.vz_returns.proofs.counts.Table.put.Goals as goal

pub returns-clause-list : goal.returns-clause-list
returns-clause-list c =
    order_put c.self.inside.counts.entries c.insert.new.self.entries c.args.id c.args.counts c.in_ok-insert.ensures.updates.0
    ∙ ap (λ v. put_in (counted_of c.args.id c.args.counts) v.list) c.self.view_is

pub returns-clause-len : goal.returns-clause-len
returns-clause-len c =
    let entries = c.self.inside.counts.entries in
    let put = ap length (order_put entries c.insert.new.self.entries c.args.id c.args.counts c.in_ok-insert.ensures.updates.0) in
    let more = put_more (counted_of c.args.id c.args.counts) (in_order entries) in
    let same = ap (λ v. length v.list) c.self.view_is in
    omega (arith, put, more, same)
