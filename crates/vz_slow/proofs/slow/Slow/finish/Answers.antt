use Rattle.std.proofs.Common.{[], ap, ◌∙◌}
use Rattle.vz_rules.specs.World.{Machine}
use Rattle.vz_slow.proofs.Following.{outcome_is}
use Rattle.vz_slow.proofs.slow.Slow.finish.Goals as goal

pub returns-clause-ok : goal.returns-clause-ok
returns-clause-ok c =
    outcome_is [] c.args.reply c.args.next c.go_on.new.self.world c.in_ok-effects.effects (c.in_ok-effects.ensures.effects c.args.reply)
    (ap (λ (m : Machine). m.world) c.in_ok-go_on.ensures.ok ∙ c.in_ok-effects.ensures.world c.args.reply)
