use Rattle.vz_deadlines.proofs.Dues.{due_in, left_in, due_ready}
use Rattle.vz_deadlines.proofs.laws.due_are_overdue.Goals as goal

pub returns-clause-due : goal.returns-clause-due
returns-clause-due c = due_in

pub returns-clause-left : goal.returns-clause-left
returns-clause-left c = left_in

pub returns-clause-ready : goal.returns-clause-ready
returns-clause-ready c = due_ready
