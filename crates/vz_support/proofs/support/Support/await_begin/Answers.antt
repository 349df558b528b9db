use Rattle.std.proofs.Common.{None, Some, refl, true, false, subst, sym, ◌∙◌}
use Rattle.vz_support.specs.Supporting.{IsSupport}
use Rattle.vz_support.proofs.Requesting.{none_of, says_awaited, begins, waits_on, ends}
use Rattle.vz_support.proofs.support.Support.await_begin.Goals as goal

pub returns-in-Some-clause-reply : goal.returns-in-Some-clause-reply
returns-in-Some-clause-reply c p w x sends is =
    says_awaited p w _ c.args.c x _ sends (subst (IsSupport p w) (sym c.self.view_is) is) (Some c.in-Some.n) _ c.in-Some.ensures.value refl

pub returns-in-Some-clause-world : goal.returns-in-Some-clause-world
returns-in-Some-clause-world c p w x sends is =
    begins p w _ c.args.c x _ sends (subst (IsSupport p w) (sym c.self.view_is) is) c.in-Some.n c.skip.new.self c.take.new.self
    c.in-Some.ensures.value
    c.skip.ensures.taken c.take.ensures.first c.take.ensures.seats c.take.ensures.relations

pub returns-then-not-self-clause-reply : goal.returns-then-not-self-clause-reply
returns-then-not-self-clause-reply c p w x sends is =
    says_awaited p w _ c.args.c x _ sends (subst (IsSupport p w) (sym c.self.view_is) is) None false
    (sym (none_of c.take.result c.in_default.not-Some) ∙ c.take.ensures.value) c.if-not-self.true

pub returns-then-not-self-clause-world : goal.returns-then-not-self-clause-world
returns-then-not-self-clause-world c p w x sends is =
    waits_on p w _ c.args.c x _ sends (subst (IsSupport p w) (sym c.self.view_is) is) c.take.new.self
    (sym (none_of c.take.result c.in_default.not-Some) ∙ c.take.ensures.value) c.if-not-self.true c.take.ensures.first c.take.ensures.seats
    c.take.ensures.relations

pub returns-clause-reply : goal.returns-clause-reply
returns-clause-reply c p w x sends is =
    says_awaited p w _ c.args.c x _ sends (subst (IsSupport p w) (sym c.self.view_is) is) None true
    (sym (none_of c.take.result c.in_default.not-Some) ∙ c.take.ensures.value) c.if-not-self.false

pub returns-clause-world : goal.returns-clause-world
returns-clause-world c p w x sends is =
    ends p w _ c.args.c x _ sends (subst (IsSupport p w) (sym c.self.view_is) is) c.skip-2.new.self c.take.new.self
    (sym (none_of c.take.result c.in_default.not-Some) ∙ c.take.ensures.value) c.if-not-self.false c.skip-2.ensures.taken
    c.take.ensures.first
    c.take.ensures.seats c.take.ensures.relations
