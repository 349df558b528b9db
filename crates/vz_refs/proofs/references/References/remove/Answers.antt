use Rattle.std.proofs.Common.{ap, ◌∙◌}
use Rattle.vz_refs.specs.Referring.{ranges_of, removing}
use Rattle.vz_refs.proofs.Changing.{no_ranges, removed_anyway}
use Rattle.vz_refs.proofs.references.References.remove.Goals as goal

pub forget-requires : goal.forget-requires
forget-requires c = ap (λ l. ranges_of l c.args.id.now) c.clear.ensures.list ∙ no_ranges c.args.id.now c.self.inside.sets.list

pub returns-clause-sets : goal.returns-clause-sets
returns-clause-sets c =
    c.forget.ensures.list ∙ ap (removing c.args.id.now) c.clear.ensures.list ∙ removed_anyway c.args.id.now c.self.inside.sets.list ∙ ap (λ v. removing c.args.id.now v.sets) c.self.view_is
