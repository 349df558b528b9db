use Rattle.std.proofs.Common.{true, refl, sym, subst}
use Rattle.vz_rules.specs.declared.entry.Event.TheVariants as event
use Rattle.vz_rules.specs.declared.entry.Reply.TheVariants as reply
use Rattle.vz_rules.specs.Messages.{says}
use Rattle.vz_surface_manager.proofs.Quiet_changes.{quiet_over}
use Rattle.vz_returns.proofs.Lent_kept.{lent_alike}
use Rattle.vz_manager.specs.Serving.{Serves}
use Rattle.vz_manager.proofs.Following.{over_answer, over_keeps, step_of, serves_on}
use Rattle.vz_manager.proofs.parts.Parts.over.Goals as goal

pub returns-clause-step : goal.returns-clause-step
returns-clause-step c p w h =
    step_of p w event.Over (says reply.Ended (record w { over = true })) c.nothing_follows.result (over_answer p w) refl
    (over_keeps p w h.keeps) c.nothing_follows.ensures.reply c.nothing_follows.ensures.effects

pub returns-clause-serves : goal.returns-clause-serves
returns-clause-serves c p w old =
    let h = subst (Serves p w) (sym c.self.view_is) old in
    serves_on p w event.Over (says reply.Ended (record w { over = true })) _ _ h (over_answer p w) refl (over_keeps p w h.keeps)
    (c.over.ensures p w h.support) (quiet_over w)
    (lent_alike w _ _ (record { clients = refl; surfaces = refl; subs = refl; in_flight = refl }) h.settling.live.lent)
