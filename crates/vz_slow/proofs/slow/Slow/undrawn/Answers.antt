use Rattle.std.proofs.Common.{Some, refl, sym, ap, ◌∙◌, subst}
use Rattle.vz_rules.specs.World.{Machine}
use Rattle.vz_rules.specs.Kept.{Keeps}
use Rattle.vz_rules.specs.declared.entry.Reply.TheVariants as reply
use Rattle.vz_slow.specs.declared.slow.Stage.{Stage}
use Rattle.vz_slow.specs.Reaching.{world_at}
use Rattle.vz_slow.proofs.Quieting.{undrawn_step, undrawn_opening}
use Rattle.vz_slow.proofs.slow.Slow.undrawn.Goals as goal

pub returns-in-Opening : goal.returns-in-Opening
returns-in-Opening c =
    let p = c.self.inside.plan.now in
    let at : Stage → Machine = λ s. record { plan = p; world = world_at p s } in
    undrawn_step p _ c.args.self.now (Some reply.NoRoot) (ap at (sym c.in-Opening.is) ∙ c.self.view_is) (subst (λ s. Keeps (world_at p s)) c.in-Opening.is c.self.invariant.reached.keeps)
    (undrawn_opening p c.in-Opening.over, refl)

pub returns-in-Running : goal.returns-in-Running
returns-in-Running c =
    let p = c.self.inside.plan.now in
    let at : Stage → Machine = λ s. record { plan = p; world = world_at p s } in
    undrawn_step p _ c.args.self.now c.undrawn.result (ap at (sym c.in-Running.is) ∙ c.self.view_is) (subst (λ s. Keeps (world_at p s)) c.in-Running.is c.self.invariant.reached.keeps)
    (c.undrawn.ensures p)
