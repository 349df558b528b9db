use Rattle.std.proofs.Common.{sym, ap, ◌∙◌, subst}
use Rattle.vz_rules.specs.World.{World, Machine}
use Rattle.vz_rules.specs.Step.{step_in}
use Rattle.vz_rules.specs.declared.entry.Event.TheVariants as event
use Rattle.vz_slow.specs.Reaching.{IsSlow}
use Rattle.vz_slow.proofs.Reaching.{slow_over, over_is}
use Rattle.vz_slow.proofs.slow.Slow.over.Goals as goal

pub invariant_of-self : goal.invariant_of-self
invariant_of-self c =
    let p = c.self.inside.plan.now in
    subst (λ (w : World). IsSlow p w c.self.inside.returned c.self.inside.fed c.self.inside.effects) (sym (c.mark_over.ensures p)) (slow_over p _ c.self.inside.returned c.self.inside.fed c.self.inside.effects c.self.invariant)

pub returns-clause-step : goal.returns-clause-step
returns-clause-step c =
    let p = c.self.inside.plan.now in
    over_is p _ _ c.none.result c.self.invariant.reached.keeps c.none.ensures (c.mark_over.ensures p) ∙ ap (λ (m : Machine). step_in m.plan m.world event.Over) c.self.view_is
