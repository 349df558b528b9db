use Rattle.std.proofs.Common.{[]}
use Rattle.vz_rules.specs.{Ends.landed, Returns.feedback_of}
use Rattle.vz_returns.proofs.Given.{fed_is, owed_landed, owed_presented}
use Rattle.vz_returns.proofs.pending_feedback.PendingFeedback.present.Goals as goal

pub returns-clause-fed : goal.returns-clause-fed
returns-clause-fed c = λ w o flies.
    let drawn = c.args.drawn.now in
    fed_is drawn (landed w) c.args.out.now.list c.give.new.out.list
    (c.give.ensures.fed (feedback_of (landed w) drawn) w.subs
    (owed_landed drawn w c.note_all.new.self.owed flies (c.note_all.ensures.owed (feedback_of w []) w.subs o)))

pub returns-clause-owed : goal.returns-clause-owed
returns-clause-owed c = λ w o flies.
    owed_presented c.args.drawn.now w c.note_all.new.self.owed c.give.new.self.owed flies
    (c.note_all.ensures.owed (feedback_of w []) w.subs o) c.give.ensures.rest
