use Rattle.std.proofs.Common.{sym, ap, ◌∙◌}
use Rattle.vz_rules.specs.World.{Machine}
use Rattle.vz_rules.specs.Log.{rest_in}
use Rattle.vz_slow.specs.Reaching.{world_at}
use Rattle.vz_slow.proofs.Reaching.{opening_rest}
use Rattle.vz_slow.proofs.slow.Slow.rest.Goals as goal

pub returns-in-Opening : goal.returns-in-Opening
returns-in-Opening c =
    let p = c.self.inside.plan.now in
    (λ i. record { held = c.new.ensures i; unfed = c.new-in-Opening.ensures i })
    ∙ sym (ap (λ (m : Machine). rest_in m.world) (sym c.self.view_is) ∙ (ap (λ s. rest_in (world_at p s)) c.in-Opening.is ∙ opening_rest p c.in-Opening.over))
