use Rattle.vz_returns.proofs.Events.{owed_accepted}
use Rattle.vz_returns.proofs.pending_feedback.PendingFeedback.accept.Goals as goal

pub returns-clause-owed : goal.returns-clause-owed
returns-clause-owed c = λ w client local frame keeps o name told.
    owed_accepted w client local frame _ _ _ c.args.sub c.args.replaced c.dropped_by.result keeps o name told c.dropped_by.ensures
    c.note.ensures.noted c.add.ensures.added
