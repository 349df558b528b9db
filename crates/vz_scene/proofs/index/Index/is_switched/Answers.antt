use Rattle.std.proofs.Common.{ap, ◌∙◌}
use Rattle.std.specs.Option.{option_copied}
use Rattle.vz_rules.specs.{World.Aggregation, Damage.is_switched}
use Rattle.vz_scene.proofs.Ties.{switched_is}
use Rattle.vz_scene.proofs.index.Index.is_switched.Goals as goal

pub returns-in-Some : goal.returns-in-Some
returns-in-Some c =
    let now = option_copied c.args.now in
    c.shows_other.ensures ∙ (switched_is c.self.inside.last.now c.self.inside.shown c.args.range.now c.in-Some.before.now now c.self.invariant.1 c.in-Some.ensures.value
    ∙ ap (λ (a : Aggregation). is_switched a c.args.range.now now) c.self.view_is)
