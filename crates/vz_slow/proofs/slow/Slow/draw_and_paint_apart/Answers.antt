use Rattle.std.proofs.Common.{[], ap, ◌∙◌, subst}
use Rattle.vz_rules.specs.World.{Machine}
use Rattle.vz_rules.specs.Step.{step_in}
use Rattle.vz_rules.specs.declared.entry.Event.TheVariants as event
use Rattle.vz_slow.specs.Drawn.{drawn_picture}
use Rattle.vz_slow.specs.Reaching.{IsReached}
use Rattle.vz_slow.proofs.Following.{draw_step, reached_after, reply_stays}
use Rattle.vz_slow.proofs.slow.Slow.draw_and_paint_apart.Goals as goal

pub finish-requires : goal.finish-requires
finish-requires c =
    let reached = subst (λ (m : Machine). IsReached m.plan m.world) c.self.view_is c.self.invariant.reached in
    let step = draw_step _ _ c.draw.new.self c.in_ok-reply.reply c.in_ok-reply.ensures
    ∙ (ap (λ w. step_in c.self.inside.plan.now w event.Draw) c.in_ok-next.ensures ∙ ap (λ (m : Machine). step_in m.plan c.args.self.now.world event.Draw) c.self.view_is) in
    reached_after c.args.self.now event.Draw c.in_ok-reply.reply c.draw.new.self reached step

pub returns-clause-step : goal.returns-clause-step
returns-clause-step c =
    let step = draw_step _ _ c.draw.new.self c.in_ok-reply.reply c.in_ok-reply.ensures
    ∙ (ap (λ w. step_in c.self.inside.plan.now w event.Draw) c.in_ok-next.ensures ∙ ap (λ (m : Machine). step_in m.plan c.args.self.now.world event.Draw) c.self.view_is) in
    c.in_ok-reply-2.ensures.ok ∙ step

-- the answer that was painted for is the one that is given
pub returns-clause-picture : goal.returns-clause-picture
returns-clause-picture c =
    c.in_ok-pixels.ensures ∙ ap (drawn_picture c.args.self.now.plan c.args.self.now.world) (reply_stays [] c.in_ok-reply.reply _ c.draw.new.self _ _ c.in_ok-reply-2.ensures.ok)
