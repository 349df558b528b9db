use Rattle.std.proofs.Common.{◌+◌, ◌-◌}
use Rattle.vz_outside.proofs.Fills.{HasRead}
use Rattle.vz_outside.proofs.transfer.read_upto.Given as goal

-- so much of the rest was read
abbrev pub invariant-loop-filled : goal.invariant-loop-filled
invariant-loop-filled g l =
    HasRead l.limit l.slot l.filled l.bytes.items (g.F.Shelf.shelved l.initial.shelf) (g.F.Shelf.shelved l.shelf)

abbrev pub decreases-loop-filled : goal.decreases-loop-filled
decreases-loop-filled g l = l.limit + 1 - l.filled
