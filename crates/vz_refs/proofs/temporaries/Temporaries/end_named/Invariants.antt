use Rattle.std.proofs.Common.{◌≡◌, ◌≤◌, take}
use Rattle.vz_refs.specs.Referring.{unnamed}
use Rattle.vz_refs.proofs.temporaries.Temporaries.end_named.Given as goal

-- those are left that none of the first ranges names
abbrev pub invariant-loop-range : goal.invariant-loop-range
invariant-loop-range l = (l.self.list ≡ unnamed (take l.range-index l.ranges) l.fn.self.list) × (l.fn.self.spare ≤ l.self.spare)
