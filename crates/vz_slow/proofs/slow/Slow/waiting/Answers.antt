use Rattle.std.proofs.Common.{sym, ap, ◌∙◌}
use Rattle.vz_rules.specs.World.{Machine}
use Rattle.vz_rules.specs.Course.{some_waits}
use Rattle.vz_slow.specs.Reaching.{world_at}
use Rattle.vz_slow.proofs.Asking.{first_waits}
use Rattle.vz_slow.proofs.slow.Slow.waiting.Goals as goal

-- nothing waits at the opening
pub returns-in-Opening : goal.returns-in-Opening
returns-in-Opening c =
    let p = c.self.inside.plan.now in
    sym (ap (λ (m : Machine). some_waits m.world) (sym c.self.view_is) ∙ (ap (λ s. some_waits (world_at p s)) c.in-Opening.is ∙ first_waits p c.in-Opening.over))
