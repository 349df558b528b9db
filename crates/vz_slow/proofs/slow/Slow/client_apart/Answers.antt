use Rattle.std.proofs.Common.{sym, ap, ◌∙◌, subst}
use Rattle.vz_rules.specs.World.{Machine}
use Rattle.vz_rules.specs.Step.{step_in}
use Rattle.vz_rules.specs.declared.entry.Event.TheVariants as event
use Rattle.vz_slow.specs.Reaching.{IsReached}
use Rattle.vz_slow.proofs.Following.{client_step, reached_after}
use Rattle.vz_slow.specs.Quiet.{IsOwn}
use Rattle.vz_slow.proofs.Quieting.{reached_own}
use Rattle.vz_slow.proofs.slow.Slow.client_apart.Goals as goal

pub client-requires : goal.client-requires
client-requires c =
    let reached = subst (λ (m : Machine). IsReached m.plan m.world) c.self.view_is c.self.invariant.reached in
    subst IsOwn (sym c.in_ok-next.ensures) (reached_own c.args.self.now.plan c.args.self.now.world reached)

pub finish-requires : goal.finish-requires
finish-requires c =
    let reached = subst (λ (m : Machine). IsReached m.plan m.world) c.self.view_is c.self.invariant.reached in
    let step = client_step _ _ c.client.new.self c.args.c c.in_ok-reply.reply c.in_ok-reply.ensures
    ∙ (ap (λ w. step_in c.self.inside.plan.now w (event.Client c.args.c)) c.in_ok-next.ensures ∙ ap (λ (m : Machine). step_in m.plan c.args.self.now.world (event.Client c.args.c)) c.self.view_is) in
    reached_after c.args.self.now (event.Client c.args.c) c.in_ok-reply.reply c.client.new.self reached step

pub returns-clause-ok : goal.returns-clause-ok
returns-clause-ok c =
    let step = client_step _ _ c.client.new.self c.args.c c.in_ok-reply.reply c.in_ok-reply.ensures
    ∙ (ap (λ w. step_in c.self.inside.plan.now w (event.Client c.args.c)) c.in_ok-next.ensures ∙ ap (λ (m : Machine). step_in m.plan c.args.self.now.world (event.Client c.args.c)) c.self.view_is) in
    c.in_ok-finish.ensures.ok ∙ step
