use Rattle.std.proofs.Common.{ap, ◌∙◌, subst}
use Rattle.vz_rules.specs.World.{Machine}
use Rattle.vz_rules.specs.Step.{step_in}
use Rattle.vz_rules.specs.declared.entry.Event.TheVariants as event
use Rattle.vz_slow.specs.Reaching.{IsReached}
use Rattle.vz_slow.proofs.Following.{draw_step, reached_after}
use Rattle.vz_slow.proofs.slow.Slow.draw_apart.Goals as goal

pub finish-requires : goal.finish-requires
finish-requires c =
    let reached = subst (λ (m : Machine). IsReached m.plan m.world) c.self.view_is c.self.invariant.reached in
    let step = draw_step _ _ c.draw.new.self c.in_ok-reply.reply c.in_ok-reply.ensures
    ∙ (ap (λ w. step_in c.self.inside.plan.now w event.Draw) c.in_ok-next.ensures ∙ ap (λ (m : Machine). step_in m.plan c.args.self.now.world event.Draw) c.self.view_is) in
    reached_after c.args.self.now event.Draw c.in_ok-reply.reply c.draw.new.self reached step

pub returns-clause-ok : goal.returns-clause-ok
returns-clause-ok c =
    let step = draw_step _ _ c.draw.new.self c.in_ok-reply.reply c.in_ok-reply.ensures
    ∙ (ap (λ w. step_in c.self.inside.plan.now w event.Draw) c.in_ok-next.ensures ∙ ap (λ (m : Machine). step_in m.plan c.args.self.now.world event.Draw) c.self.view_is) in
    c.in_ok-finish.ensures.ok ∙ step
