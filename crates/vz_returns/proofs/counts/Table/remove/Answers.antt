use Rattle.std.proofs.Common.{◌+◌, length, ap, ◌∙◌, is_some}
use Rattle.vz_returns.specs.{Held.counted_at, Held.without, Ordered.in_order}
use Rattle.vz_returns.proofs.Orders.{order_without, without_length, rising_order, counts_there}
use Rattle.vz_returns.proofs.counts.Table.remove.Goals as goal

pub returns-clause-list : goal.returns-clause-list
returns-clause-list c =
    order_without c.self.inside.counts.entries c.swap_remove.new.self.entries c.args.id c.swap_remove.ensures.updates.0 ∙ ap (λ v. without c.args.id v.list) c.self.view_is

pub returns-clause-len : goal.returns-clause-len
returns-clause-len c there =
    let list = in_order c.self.inside.counts.entries in
    let some = ap (λ v. is_some (counted_at c.args.id v.list)) c.self.view_is ∙ counts_there c.args.id c.args.self.now.list there in
    ap (λ l. length l + 1) (order_without c.self.inside.counts.entries c.swap_remove.new.self.entries c.args.id c.swap_remove.ensures.updates.0)
    ∙ without_length c.args.id list (rising_order c.self.inside.counts.entries) some ∙ ap (λ v. length v.list) c.self.view_is
