use Rattle.std.proofs.Common.{ap, ◌∙◌, Some}
use Rattle.vz_damage.specs.Told.{told_on}
use Rattle.vz_damage.proofs.Looking.{told_here, told_there}
use Rattle.vz_damage.proofs.damage.Damage.begin.Goals as goal

pub returns-clause-told : goal.returns-clause-told
returns-clause-told c =
    told_here c.self.inside.surfaces.entries c.insert.new.self.entries c.args.id (Some c.new.result) c.in_ok-insert.ensures.updates.0 ∙ ap (λ t. Some t) c.new.ensures

pub returns-clause-others : goal.returns-clause-others
returns-clause-others c other apart =
    told_there c.self.inside.surfaces.entries c.insert.new.self.entries c.args.id (Some c.new.result) c.in_ok-insert.ensures.updates.0 other apart ∙ ap (λ v. told_on v.surfaces other) c.self.view_is
