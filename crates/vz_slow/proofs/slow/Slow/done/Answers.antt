use Rattle.std.proofs.Common.{sym, ap, ◌∙◌, subst}
use Rattle.vz_rules.specs.World.{World, Machine}
use Rattle.vz_rules.specs.Plan.{Plan}
use Rattle.vz_rules.specs.Step.{Outcome, step_in}
use Rattle.vz_rules.specs.declared.entry.Effects.{Effects}
use Rattle.vz_rules.specs.declared.entry.Reply.TheVariants as reply
use Rattle.vz_slow.specs.declared.slow.Stage.{Stage}
use Rattle.vz_rules.specs.declared.entry.Event.TheVariants as event
use Rattle.vz_slow.specs.Reaching.{IsReached, world_at}
use Rattle.vz_slow.proofs.Reaching.{slow_done, opening_done}
use Rattle.vz_slow.proofs.slow.Slow.done.Goals as goal

pub invariant_of-self-in-Running : goal.invariant_of-self-in-Running
invariant_of-self-in-Running c =
    let p = c.self.inside.plan.now in
    slow_done p _ c.done.new.world c.done.result.0 c.done.result.1 c.done.new.returned c.done.new.fed c.done.new.room (subst (λ s. IsReached p (world_at p s)) c.in-Running.is c.self.invariant.reached)
    (c.done.ensures.step p) c.done.ensures.none c.done.ensures.returned c.done.ensures.fed

pub returns-in-Opening-clause-step : goal.returns-in-Opening-clause-step
returns-in-Opening-clause-step c =
    let p = c.self.inside.plan.now in
    let at : Stage → World = λ s. world_at p s in
    ap (λ (s : Stage). doing p s c.none.result) c.in-Opening.is
    ∙ (opening_done p c.in-Opening.over c.none.result c.self.invariant.reached.plan c.none.ensures
    ∙ (ap (λ (s : Stage). step_in p (at s) event.Done) (sym c.in-Opening.is) ∙ ap (λ (m : Machine). step_in m.plan m.world event.Done) c.self.view_is))
  where
    doing : Plan → Stage → Effects → Outcome
    doing p s e = record { reply = reply.Nothing; effects = e; world = world_at p s }
