use Rattle.std.proofs.Common.{ap, ◌∙◌, None}
use Rattle.vz_damage.specs.Told.{told_on}
use Rattle.vz_damage.proofs.Looking.{told_here, told_there}
use Rattle.vz_damage.proofs.damage.Damage.destroyed.Goals as goal

pub returns-clause-none : goal.returns-clause-none
returns-clause-none c = told_here c.self.inside.surfaces.entries c.swap_remove.new.self.entries c.args.id.now None c.swap_remove.ensures.updates.0

pub returns-clause-others : goal.returns-clause-others
returns-clause-others c other apart =
    told_there c.self.inside.surfaces.entries c.swap_remove.new.self.entries c.args.id.now None c.swap_remove.ensures.updates.0 other apart ∙ ap (λ v. told_on v.surfaces other) c.self.view_is
