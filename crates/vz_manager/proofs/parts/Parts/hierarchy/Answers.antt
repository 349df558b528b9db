use Rattle.std.proofs.Common.{refl, sym, ◌∙◌, subst}
use Rattle.vz_rules.specs.declared.entry.Event.TheVariants as event
use Rattle.vz_rules.specs.Messages.{hierarchy_answer}
use Rattle.vz_rules.proofs.Kept_answers.{keeps_related}
use Rattle.vz_surface_manager.proofs.Quiet_changes.{quiet_related}
use Rattle.vz_returns.proofs.Lent_kept.{lent_hierarchy}
use Rattle.vz_manager.specs.Serving.{Serves}
use Rattle.vz_manager.proofs.Following.{hierarchy_sent, step_of, serves_on, sends_next}
use Rattle.vz_manager.proofs.parts.Parts.hierarchy.Goals as goal

pub returns-clause-step : goal.returns-clause-step
returns-clause-step c p w x parent child old is =
    let h = subst (Serves p w) (sym c.self.view_is) old in
    step_of p w (event.Client c.args.c) (hierarchy_answer w x parent child) c.nothing_follows.result
    (hierarchy_sent p w c.args.c x parent child is) refl
    (keeps_related w x parent child h.keeps)
    (c.nothing_follows.ensures.reply ∙ c.in_ok-reply.ensures.reply p w x parent child (sends_next p w _ c.args.c x _ h is) h.support)
    c.nothing_follows.ensures.effects

pub returns-clause-serves : goal.returns-clause-serves
returns-clause-serves c p w x parent child old is =
    let h = subst (Serves p w) (sym c.self.view_is) old in
    serves_on p w (event.Client c.args.c) (hierarchy_answer w x parent child) _ _ h (hierarchy_sent p w c.args.c x parent child is) refl
    (keeps_related w x parent child h.keeps) (c.in_ok-reply.ensures.world p w x parent child (sends_next p w _ c.args.c x _ h is) h.support)
    (quiet_related w x parent child) (lent_hierarchy w x parent child _ h.settling.live.lent)
