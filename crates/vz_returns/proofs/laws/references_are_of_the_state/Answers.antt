use Rattle.vz_returns.proofs.Lent_kept.{lends, lent_alike, lent_ordered, lent_none_drawn, lent_all_done}
use Rattle.vz_returns.proofs.laws.references_are_of_the_state.Goals as goal

pub returns-clause-alike : goal.returns-clause-alike
returns-clause-alike c = lent_alike

pub returns-clause-begun : goal.returns-clause-begun
returns-clause-begun c = lent_none_drawn

pub returns-clause-over : goal.returns-clause-over
returns-clause-over c = lent_all_done

pub returns-clause-lender : goal.returns-clause-lender
returns-clause-lender c = lends

pub returns-clause-order : goal.returns-clause-order
returns-clause-order c = lent_ordered
