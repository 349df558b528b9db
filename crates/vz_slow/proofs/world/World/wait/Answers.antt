use Rattle.std.proofs.Common.{sym, ap, ◌∙◌}
use Rattle.vz_rules.specs.World.{World}
use Rattle.vz_slow.proofs.Answering.{await_began, await_over, await_not_yet}
use Rattle.vz_slow.proofs.world.World.wait.Goals as goal

pub returns-in_ok-change_alone-in-Some-clause-value : goal.returns-in_ok-change_alone-in-Some-clause-value
returns-in_ok-change_alone-in-Some-clause-value c = λ x h e. await_began c.args.self.now _ x c.args.delivered c.in-Some.n e c.in-Some.is (c.in_ok-change_alone-in-Some.ensures.value x h)

pub returns-in_ok-change_alone-in-None-clause-value : goal.returns-in_ok-change_alone-in-None-clause-value
returns-in_ok-change_alone-in-None-clause-value c = λ x h e.
    await_over c.args.self.now _ x c.args.delivered e c.in-None.is (sym (ap (λ (u : World). u.over) c.self.view_is) ∙ c.if-not-self.false) (c.in_ok-change_alone-in-None.ensures.value x h)

pub returns-then-not-self-clause-value : goal.returns-then-not-self-clause-value
returns-then-not-self-clause-value c = λ x h e. await_not_yet c.args.self.now x c.args.delivered e c.in-None.is (sym (ap (λ (u : World). u.over) c.self.view_is) ∙ c.if-not-self.true)
