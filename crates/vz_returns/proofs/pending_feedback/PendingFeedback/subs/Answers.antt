use Rattle.std.proofs.Common.{◌++◌, is_some, ap, ◌∙◌}
use Rattle.vz_returns.specs.Owed.{place_of}
use Rattle.vz_returns.proofs.Unfed_rest.{rest_is}
use Rattle.vz_returns.proofs.pending_feedback.PendingFeedback.subs.Goals as goal

pub returns-clause-rest : goal.returns-clause-rest
returns-clause-rest c = λ w h o.
    c.subs.ensures.list
    ∙ ap (λ l. c.args.out.now.list ++ l)
    (rest_is w c.args.self.now.owed c.self.inside.unfed.list h o c.self.invariant.sorted
    (λ t. c.self.invariant.same t ∙ ap (λ v. is_some (place_of v.owed t)) c.self.view_is))
