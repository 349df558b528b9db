use Rattle.std.proofs.Common.{ap, ◌∙◌}
use Rattle.vz_damage.specs.Told.{told_on, damage_in}
use Rattle.vz_damage.proofs.damage.Damage.since.Goals as goal

pub returns : goal.returns
returns c = c.damage_of.ensures ∙ ap (λ v. damage_in (told_on v.surfaces c.args.id.now)) c.self.view_is
