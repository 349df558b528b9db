use Rattle.std.proofs.Common.{None, sym, ap, subst, ◌∙◌}
use Rattle.indexmap.specs.IndexMap.{get}
use Rattle.vz_ids.specs.Ids.{same_surface}
use Rattle.vz_refs.specs.Referring.{ranges_of}
use Rattle.vz_refs.specs.Indexing.{same_nth, same_place, same_key, IsIndexed}
use Rattle.vz_refs.proofs.Keyed.{surfaces, updated}
use Rattle.vz_refs.proofs.Indexed.{forgotten}
use Rattle.vz_refs.proofs.sets.Sets.forget.Goals as goal

pub invariant_of-self : goal.invariant_of-self
invariant_of-self c =
    subst (λ l. IsIndexed l (get same_surface c.swap_remove.new.self) (get same_nth c.self.inside.edges) (get same_place c.self.inside.ends) (get same_key c.self.inside.sizes)) (sym c.remove.ensures)
    (forgotten _ _ _ _ _ c.self.invariant c.args.id (ap (λ v. ranges_of v.list c.args.id) c.self.view_is ∙ c.requires) _ (updated _ same_surface surfaces c.self.inside.counts c.swap_remove.new.self c.args.id None c.swap_remove.ensures.updates))
