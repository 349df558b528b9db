use Rattle.std.proofs.Common.{length, ap, sym, ◌∙◌}
use Rattle.vz_returns.proofs.Orders.{order_length}
use Rattle.vz_returns.proofs.counts.Table.len.Goals as goal

pub returns : goal.returns
returns c = c.len.ensures.len ∙ sym (order_length c.self.inside.counts.entries c.len.ensures.unique) ∙ ap (λ v. length v.list) c.self.view_is
