use Rattle.std.proofs.Common.{◌≡◌, ◌≤◌, ◌+◌, length, drop}
use Rattle.std.specs.List.{filter_map}
use Rattle.vz_ids.specs.Ids.{same_surface}
use Rattle.vz_rules.specs.Closure.{adding}
use Rattle.vz_refs.specs.Referring.{ranges_of}
use Rattle.vz_refs.specs.Noted.{noted, AreNoted}
use Rattle.vz_refs.proofs.marking.follow.Given as goal

-- what the ranges that are left show comes behind what is there
abbrev pub invariant-loop-nth : goal.invariant-loop-nth
invariant-loop-nth g l =
    (adding same_surface l.out.list (filter_map (g.S.Shows.shows l.s) (drop l.nth (ranges_of l.sets.list l.from))) ≡ adding same_surface l.fn.out.list (filter_map (g.S.Shows.shows l.s) (ranges_of l.sets.list l.from)))
    × (length l.fn.out.list + l.fn.out.spare ≤ length l.out.list + l.out.spare) × AreNoted (noted l.sets.keys l.notes) l.out.list
