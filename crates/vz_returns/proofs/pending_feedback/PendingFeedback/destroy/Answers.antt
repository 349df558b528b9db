use Rattle.vz_returns.proofs.Events.{owed_destroyed}
use Rattle.vz_returns.proofs.pending_feedback.PendingFeedback.destroy.Goals as goal

pub returns-clause-owed : goal.returns-clause-owed
returns-clause-owed c = λ w d keeps o first second.
    owed_destroyed w d _ _ _ c.args.waiting c.args.active c.dropped_by.result c.dropped_by-2.result keeps o first second
    c.dropped_by.ensures c.note.ensures.noted c.dropped_by-2.ensures c.note-2.ensures.noted
