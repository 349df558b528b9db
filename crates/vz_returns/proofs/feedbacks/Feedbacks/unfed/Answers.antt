use Rattle.std.proofs.Common.{length, ap, sym, ◌∙◌}
use Rattle.vz_returns.proofs.Sorted_subs.{sorted_length}
use Rattle.vz_returns.proofs.feedbacks.Feedbacks.unfed.Goals as goal

pub returns-clause-value : goal.returns-clause-value
returns-clause-value c =
    c.len.ensures.len ∙ sym (sorted_length c.self.inside.places.entries c.len.ensures.unique) ∙ ap (λ v. length v.list) c.self.view_is
