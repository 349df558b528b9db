use Rattle.std.proofs.Common.{None, length}
use Rattle.vz_plain.specs.Going.{GoesOn}
use Rattle.vz_plain.proofs.level.Level.next_level.Given as goal

-- the level went on from what it was
abbrev pub invariant-quads : goal.invariant-quads
invariant-quads l = GoesOn l.active l.fn.self l.self None

abbrev pub decreases-quads : goal.decreases-quads
decreases-quads l = length l.self.quads
