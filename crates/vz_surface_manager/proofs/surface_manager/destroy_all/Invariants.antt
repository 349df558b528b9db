use Rattle.vz_surface_manager.proofs.Collection.{AreGoing}
use Rattle.vz_surface_manager.proofs.surface_manager.destroy_all.Given as goal

-- those of the first so many that are not reached are destroyed and told
abbrev pub invariant-loop-id : goal.invariant-loop-id
invariant-loop-id l = AreGoing l.marked l.reached.list l.fn.settling l.fn.destroyed l.id-index l.settling l.destroyed
