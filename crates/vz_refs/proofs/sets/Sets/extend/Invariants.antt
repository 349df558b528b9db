use Rattle.std.proofs.Common.{◌≡◌, ◌≤◌, ◌+◌, ◌++◌, take}
use Rattle.vz_refs.specs.Indexing.{changing}
use Rattle.vz_refs.proofs.sets.Sets.extend.Given as goal

-- so many ranges are in
abbrev pub invariant-loop-range : goal.invariant-loop-range
invariant-loop-range l = (l.self.list ≡ changing (λ old. old ++ take l.range-index l.ranges) l.id l.fn.self.list) × (l.fn.self.spare ≤ l.self.spare + l.range-index)
