use Rattle.std.proofs.Common.{◌-◌, length}
use Rattle.vz_check.proofs.Log_so_far.{StandsSome}
use Rattle.vz_check.proofs.judge.check.Given as goal

-- the entries so far have no fault
abbrev pub invariant-loop-at : goal.invariant-loop-at
invariant-loop-at g l =
    StandsSome l.plan l.log l.slot (g.F.Shelf.shelved l.initial.shelf) (g.F.Shelf.shelved l.shelf) l.machine l.at l.count

-- the bytes of the log that are left
abbrev pub decreases-loop-at : goal.decreases-loop-at
decreases-loop-at g l = length l.log - l.at
