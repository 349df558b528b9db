use Rattle.std.proofs.Common.{subst, sym, refl, ◌∙◌}
use Rattle.vz_sinks.specs.Relating.{refusal_in}
use Rattle.vz_support.specs.{Relations.reply_for, Relations.relations_for, Supporting.IsSupport}
use Rattle.vz_support.proofs.Requesting.{asked_is, says_related, relates}
use Rattle.vz_support.proofs.support.Support.hierarchy.Goals as goal

pub returns-clause-reply : goal.returns-clause-reply
returns-clause-reply c p w x parent child sends is =
    let kept = subst (IsSupport p w) (sym c.self.view_is) is in
    let asked = asked_is p w _ c.args.c x _ sends kept parent child c.in-Hierarchy.parent c.in-Hierarchy.child c.in-Some.message.now refl
    c.in-Some.ensures c.in-Hierarchy.is in
    c.in_ok-reply.ensures.reply
    ∙ ((λ i. reply_for (refusal_in c.self.inside.sinks c.args.c (asked.0 i) (asked.1 i)))
    ∙ says_related p w _ c.args.c x _ sends kept parent child)

pub returns-clause-world : goal.returns-clause-world
returns-clause-world c p w x parent child sends is =
    let kept = subst (IsSupport p w) (sym c.self.view_is) is in
    let asked = asked_is p w _ c.args.c x _ sends kept parent child c.in-Hierarchy.parent c.in-Hierarchy.child c.in-Some.message.now refl
    c.in-Some.ensures c.in-Hierarchy.is in
    relates p w _ c.args.c x _ sends kept parent child c.take.new.self c.relate.new.sinks c.take.ensures.taken c.relate.ensures.first
    c.relate.ensures.seats
    (c.in_ok-reply.ensures.relations
    ∙ (λ i. relations_for (refusal_in c.self.inside.sinks c.args.c (asked.0 i) (asked.1 i)) (asked.0 i) (asked.1 i)
    c.self.inside.sinks.relations))
