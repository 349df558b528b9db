use Rattle.std.proofs.Common.{ap, ◌∙◌}
use Rattle.vz_returns.specs.Unfed.{sorted_subs}
use Rattle.vz_returns.proofs.Sorted_subs.{none_sorted}
use Rattle.vz_returns.proofs.feedbacks.Feedbacks.new.Goals as goal

pub returns-clause-list : goal.returns-clause-list
returns-clause-list c = ap sorted_subs c.new.ensures.empty ∙ none_sorted
