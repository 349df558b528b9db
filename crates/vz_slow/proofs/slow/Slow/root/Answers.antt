use Rattle.std.proofs.Common.{sym, ap, ◌∙◌}
use Rattle.vz_rules.specs.World.{Machine}
use Rattle.vz_slow.specs.Reaching.{world_at}
use Rattle.vz_slow.proofs.Reaching.{opening_root}
use Rattle.vz_slow.proofs.slow.Slow.root.Goals as goal

pub returns-in-Opening : goal.returns-in-Opening
returns-in-Opening c =
    let p = c.self.inside.plan.now in
    sym (ap (λ (m : Machine). m.world.root) (sym c.self.view_is) ∙ (ap (λ s. (world_at p s).root) c.in-Opening.is ∙ opening_root p c.in-Opening.over))
