use Rattle.std.proofs.Common.{length, ◌-◌}
use Rattle.vz_outside.proofs.Writes.{HasWritten}
use Rattle.vz_outside.proofs.transfer.write_all.Given as goal

-- so much of the text was written
abbrev pub invariant-loop-written : goal.invariant-loop-written
invariant-loop-written g l =
    HasWritten l.bytes l.slot l.written (g.F.Shelf.shelved l.initial.shelf) (g.F.Shelf.shelved l.shelf)

abbrev pub decreases-loop-written : goal.decreases-loop-written
decreases-loop-written g l = length l.bytes - l.written
