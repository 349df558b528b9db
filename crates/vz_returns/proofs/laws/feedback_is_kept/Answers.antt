use Rattle.vz_returns.proofs.Kept.{opened_has, fed_has, opened_in_order, fed_in_order}
use Rattle.vz_returns.proofs.laws.feedback_is_kept.Goals as goal

pub returns-clause-opened : goal.returns-clause-opened
returns-clause-opened c = opened_has

pub returns-clause-fed : goal.returns-clause-fed
returns-clause-fed c = fed_has

pub returns-clause-in_order : goal.returns-clause-in_order
returns-clause-in_order c = opened_in_order

pub returns-clause-fed_in_order : goal.returns-clause-fed_in_order
returns-clause-fed_in_order c = fed_in_order
