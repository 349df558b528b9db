use Rattle.std.proofs.Common.{sym, subst}
use Rattle.indexmap.specs.IndexMap.{get}
use Rattle.vz_ids.specs.Ids.{same_surface}
use Rattle.vz_refs.specs.Indexing.{same_nth, same_place, same_key, IsIndexed}
use Rattle.vz_refs.proofs.Keyed.{nothing}
use Rattle.vz_refs.proofs.Indexed.{none_set}
use Rattle.vz_refs.proofs.sets.Sets.new.Goals as goal

pub invariant_of-result : goal.invariant_of-result
invariant_of-result c =
    subst (λ l. IsIndexed l (get same_surface c.new.result) (get same_nth c.new-2.result) (get same_place c.new-3.result) (get same_key c.new-4.result)) (sym c.new-5.ensures)
    (none_set _ _ _ _ (nothing same_surface c.new.result c.new.ensures.empty) (nothing same_nth c.new-2.result c.new-2.ensures.empty) (nothing same_place c.new-3.result c.new-3.ensures.empty) (nothing same_key c.new-4.result c.new-4.ensures.empty))
