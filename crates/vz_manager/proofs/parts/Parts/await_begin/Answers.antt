use Rattle.std.proofs.Common.{refl, sym, ◌∙◌, subst}
use Rattle.vz_rules.specs.declared.entry.Event.TheVariants as event
use Rattle.vz_rules.specs.Messages.{await_answer}
use Rattle.vz_rules.proofs.Kept_answers.{keeps_await}
use Rattle.vz_surface_manager.proofs.Quiet_changes.{quiet_awaited}
use Rattle.vz_returns.proofs.Lent_kept.{lent_awaits}
use Rattle.vz_manager.specs.Serving.{Serves}
use Rattle.vz_manager.proofs.Following.{await_sent, step_of, serves_on, sends_next}
use Rattle.vz_manager.proofs.parts.Parts.await_begin.Goals as goal

pub returns-clause-step : goal.returns-clause-step
returns-clause-step c p w x old is =
    let h = subst (Serves p w) (sym c.self.view_is) old in
    step_of p w (event.Client c.args.c) (await_answer w x) c.nothing_follows.result (await_sent p w c.args.c x is) refl
    (keeps_await w x h.keeps)
    (c.nothing_follows.ensures.reply ∙ c.await_begin-reply.ensures.reply p w x (sends_next p w _ c.args.c x _ h is) h.support)
    c.nothing_follows.ensures.effects

pub returns-clause-serves : goal.returns-clause-serves
returns-clause-serves c p w x old is =
    let h = subst (Serves p w) (sym c.self.view_is) old in
    serves_on p w (event.Client c.args.c) (await_answer w x) _ _ h (await_sent p w c.args.c x is) refl (keeps_await w x h.keeps)
    (c.await_begin-reply.ensures.world p w x (sends_next p w _ c.args.c x _ h is) h.support)
    (quiet_awaited w x) (lent_awaits w x _ h.settling.live.lent)
