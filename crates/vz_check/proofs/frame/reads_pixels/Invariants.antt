use Rattle.std.proofs.Common.{◌-◌, ◌≤◌, length, take}
use Rattle.vz_check.proofs.Giving.{HasRead}
use Rattle.vz_check.proofs.Pieces.{bytes_in}
use Rattle.vz_check.proofs.frame.reads_pixels.Given as goal

-- the bytes of the pixels so far were read
abbrev pub invariant-loop-at : goal.invariant-loop-at
invariant-loop-at g l =
    (l.at ≤ length l.pixels) × HasRead (bytes_in (take l.at l.pixels)) l.slot (g.F.Shelf.shelved l.initial.shelf) (g.F.Shelf.shelved l.shelf)

-- the pixels that are left
abbrev pub decreases-loop-at : goal.decreases-loop-at
decreases-loop-at g l = length l.pixels - l.at
