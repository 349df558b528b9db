use Rattle.vz_returns.proofs.Events.{owed_activated}
use Rattle.vz_returns.proofs.pending_feedback.PendingFeedback.activate.Goals as goal

pub returns-clause-owed : goal.returns-clause-owed
returns-clause-owed c = λ w s keeps o in' waits told.
    owed_activated w s _ _ c.args.past c.dropped_by.result keeps o in' waits told c.dropped_by.ensures c.note.ensures.noted
