use Rattle.std.proofs.Common.{refl, sym, subst}
use Rattle.vz_rules.specs.declared.entry.Event.TheVariants as event
use Rattle.vz_rules.specs.declared.entry.Reply.TheVariants as reply
use Rattle.vz_rules.specs.Messages.{says, taking, answer_tick}
use Rattle.vz_rules.proofs.Kept_answers.{keeps_noted}
use Rattle.vz_surface_manager.proofs.Quiet_changes.{quiet_noted}
use Rattle.vz_returns.proofs.Lent_kept.{lent_taking}
use Rattle.vz_manager.specs.Serving.{Serves}
use Rattle.vz_manager.proofs.Following.{noted_answer, step_of, serves_on, sends_next, refers_noted}
use Rattle.vz_manager.proofs.parts.Parts.did_not_produce.Goals as goal

pub returns-clause-step : goal.returns-clause-step
returns-clause-step c p w x n h is =
    step_of p w (event.Client c.args.c) (says reply.Noted (taking (answer_tick w.tick n) x w)) c.nothing_follows.result
    (noted_answer p w c.args.c x n is) refl
    (keeps_noted w x n h.keeps) c.nothing_follows.ensures.reply c.nothing_follows.ensures.effects

pub returns-clause-serves : goal.returns-clause-serves
returns-clause-serves c p w x n old is =
    let h = subst (Serves p w) (sym c.self.view_is) old in
    serves_on p w (event.Client c.args.c) (says reply.Noted (taking (answer_tick w.tick n) x w)) _ _ h (noted_answer p w c.args.c x n is)
    refl
    (keeps_noted w x n h.keeps) (c.did_not_produce.ensures p w x n (sends_next p w _ c.args.c x _ h is) h.support)
    (quiet_noted w x n) (lent_taking (answer_tick w.tick n) x w _ (refers_noted w.tick n) h.settling.live.lent)
