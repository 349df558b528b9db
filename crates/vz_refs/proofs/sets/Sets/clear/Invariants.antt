use Rattle.std.proofs.Common.{◌≡◌, ◌≤◌}
use Rattle.vz_refs.specs.Indexing.{changing}
use Rattle.vz_refs.proofs.Changing.{but_lasts}
use Rattle.vz_refs.proofs.sets.Sets.clear.Given as goal

-- so many ranges are gone
abbrev pub invariant-loop-taken : goal.invariant-loop-taken
invariant-loop-taken l = (l.self.list ≡ changing (but_lasts l.taken) l.id l.fn.self.list) × (l.fn.self.spare ≤ l.self.spare)
