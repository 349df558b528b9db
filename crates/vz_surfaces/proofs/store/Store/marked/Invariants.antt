use Rattle.std.proofs.Common.{◌≡◌, ◌+◌, ◌++◌, length}
use Rattle.vz_surfaces.specs.Reading.{marked_to}
use Rattle.vz_surfaces.specs.Told.{stored}
use Rattle.vz_surfaces.proofs.store.Store.marked.Given as goal

-- those of the clients before are in
abbrev pub invariant-loop-k : goal.invariant-loop-k
invariant-loop-k l = (l.out.list ≡ l.fn.out.list ++ marked_to l.k (stored l.self-inside.told)) × (l.fn.out.spare ≡ l.out.spare + length (marked_to l.k (stored l.self-inside.told)))
