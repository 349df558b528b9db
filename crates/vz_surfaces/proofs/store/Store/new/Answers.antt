use Rattle.vz_surfaces.proofs.Storing.{stored_none}
use Rattle.vz_surfaces.proofs.Storing_whole.{stands_none, lists_none}
use Rattle.vz_surfaces.proofs.store.Store.new.Goals as goal

pub invariant_of-result : goal.invariant_of-result
invariant_of-result c = (stands_none c.new-2.result c.new-3.result c.in_ok-owners.owners c.new-4.result c.new-6.result c.new-2.ensures.none c.new-2.ensures.len c.new-2.ensures.keyed c.new-3.ensures c.in_ok-owners.ensures.owners c.in_ok-owners.ensures.marking c.new-4.ensures c.new-6.ensures, lists_none c.new-5.result c.new-6.result c.new-5.ensures c.new-6.ensures)

pub returns : goal.returns
returns c = stored_none c.new-6.result c.new-6.ensures
