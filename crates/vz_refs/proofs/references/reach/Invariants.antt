use Rattle.std.proofs.Common.{◌+◌, ◌-◌, length}
use Rattle.vz_refs.specs.Noted.{noted, AreNoted}
use Rattle.vz_refs.specs.Lasting.{all_in}
use Rattle.vz_refs.proofs.Gathering.{all_of, IsMarked}
use Rattle.vz_refs.proofs.references.reach.Given as goal

-- those before the place have been followed
abbrev pub invariant-loop-at : goal.invariant-loop-at
invariant-loop-at g l =
    IsMarked (g.S.Shows.shows l.s) l.sets.list l.fn.root (all_in l.kept.entries) l.out.list l.at (length l.out.list + l.out.spare) × AreNoted (noted l.sets.keys l.notes) l.out.list

-- those that are left
abbrev pub decreases-loop-at : goal.decreases-loop-at
decreases-loop-at g l = length (all_of l.sets.list l.fn.root (all_in l.kept.entries)) - l.at
