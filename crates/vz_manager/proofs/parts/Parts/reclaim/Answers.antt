use Rattle.std.proofs.Common.{None, refl, sym, ap, ◌∙◌, subst, arith}
use Rattle.vz_rules.specs.declared.entry.Event.TheVariants as event
use Rattle.vz_rules.specs.declared.entry.Reply.TheVariants as reply
use Rattle.vz_rules.specs.Messages.{says, taking, reclaim}
use Rattle.vz_rules.proofs.Cases.{number_at}
use Rattle.vz_rules.proofs.Kept_answers.{keeps_reclaimed}
use Rattle.vz_returns.specs.Lent.{IsLender}
use Rattle.vz_surface_manager.proofs.Quiet_changes.{quiet_reclaimed}
use Rattle.vz_manager.specs.Serving.{Serves}
use Rattle.vz_manager.proofs.Resting.{appended}
use Rattle.vz_manager.proofs.Following.{reclaim_sent, step_of, serves_with, sends_next, client_here, lender_here}
use Rattle.vz_manager.proofs.parts.Parts.reclaim.Goals as goal

pub queued-requires : goal.queued-requires
queued-requires c =
    let s = c.requires.stands in
    record {
      known = subst (λ v. IsLender c.args.c v.settling.live.lent) (sym c.self.view_is)
          (lender_here s.0 s.1 c.args.self.now c.args.c s.2 c.requires.some c.requires.known);
    }

pub reclaim-requires-clause-known : goal.reclaim-requires-clause-known
reclaim-requires-clause-known c =
    let s = c.requires.stands in
    subst (λ v. IsLender c.args.c v.settling.live.lent) (sym c.self.view_is)
    (lender_here s.0 s.1 c.args.self.now c.args.c s.2 c.requires.some c.requires.known)

pub reclaim-requires-clause-room : goal.reclaim-requires-clause-room
reclaim-requires-clause-room c l own = omega (arith, c.queued.ensures.own l own, c.in_ok-reserve.ensures.ok)

pub returns-clause-step : goal.returns-clause-step
returns-clause-step c p w x old is =
    let h = subst (Serves p w) (sym c.self.view_is) old in
    let told = c.reclaim.ensures.returned w None x h.keeps.always h.settling.live (client_here w c.args.c x is.here)
    (number_at w c.args.c x is.here) in
    step_of p w (event.Client c.args.c) (says (reply.Reclaimed x.queue) (taking reclaim x w)) c.nothing_follows.result
    (reclaim_sent p w c.args.c x is) refl
    (keeps_reclaimed w x h.keeps)
    (c.nothing_follows.ensures.reply ∙ ap reply.Reclaimed (appended _ _ _ x.queue c.take-queue.ensures.values told
    (c.reserve.ensures.list ∙ c.clear.ensures.list)))
    c.nothing_follows.ensures.effects

pub returns-clause-serves : goal.returns-clause-serves
returns-clause-serves c p w x old is =
    let h = subst (Serves p w) (sym c.self.view_is) old in
    serves_with p w (event.Client c.args.c) (says (reply.Reclaimed x.queue) (taking reclaim x w)) _ _ _ h
    (reclaim_sent p w c.args.c x is) refl
    (keeps_reclaimed w x h.keeps) c.reclaim.ensures.rest (c.reclaim.ensures.released h.released) c.reclaim.ensures.out
    (c.reclaim-2.ensures p w x (sends_next p w _ c.args.c x _ h is) h.support) (quiet_reclaimed w x)
    (c.reclaim.ensures.live w None x h.keeps.always h.settling.live (client_here w c.args.c x is.here) (number_at w c.args.c x is.here))
