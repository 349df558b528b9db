use Rattle.std.proofs.Common.{refl, sym, subst}
use Rattle.vz_rules.specs.declared.entry.Event.TheVariants as event
use Rattle.vz_rules.specs.Messages.{refused}
use Rattle.vz_rules.proofs.Kept_answers.{keeps_refused}
use Rattle.vz_surface_manager.proofs.Quiet_changes.{quiet_refused}
use Rattle.vz_returns.proofs.Lent_kept.{lent_taking}
use Rattle.vz_manager.specs.Serving.{Serves}
use Rattle.vz_manager.proofs.Following.{step_of, serves_on, refers_plain}
use Rattle.vz_manager.proofs.parts.Parts.refuse.Goals as goal

pub returns-clause-step : goal.returns-clause-step
returns-clause-step c p w x m h is =
    step_of p w (event.Client c.args.c) (refused w x c.args.refusal) c.nothing_follows.result is.answer refl
    (keeps_refused w x c.args.refusal h.keeps)
    c.nothing_follows.ensures.reply c.nothing_follows.ensures.effects

pub returns-clause-serves : goal.returns-clause-serves
returns-clause-serves c p w x m old is =
    let h = subst (Serves p w) (sym c.self.view_is) old in
    serves_on p w (event.Client c.args.c) (refused w x c.args.refusal) _ _ h is.answer refl (keeps_refused w x c.args.refusal h.keeps)
    (c.refuse.ensures p w x m c.args.refusal (record { keeps = h.keeps.always; here = is.here; next = is.next }) h.support)
    (quiet_refused w x c.args.refusal) (lent_taking (λ y. y) x w _ refers_plain h.settling.live.lent)
