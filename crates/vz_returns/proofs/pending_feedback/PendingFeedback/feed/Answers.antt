use Rattle.std.proofs.Common.{[]}
use Rattle.vz_rules.specs.Returns.{feedback_of}
use Rattle.vz_returns.proofs.Given.{fed_is, owed_fed}
use Rattle.vz_returns.proofs.pending_feedback.PendingFeedback.feed.Goals as goal

pub returns-clause-fed : goal.returns-clause-fed
returns-clause-fed c = λ w o. fed_is [] w c.args.out.now.list c.give.new.out.list (c.give.ensures.fed (feedback_of w []) w.subs o)

pub returns-clause-owed : goal.returns-clause-owed
returns-clause-owed c = λ w o. owed_fed [] w c.args.self.now.owed c.give.new.self.owed o c.give.ensures.rest
