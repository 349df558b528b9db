use Rattle.std.proofs.Common.{◌≡◌, ◌≤◌, ◌==◌, ◌&&◌, nat_lt, cond, None}
use Rattle.std.specs.Map.{lookup}
use Rattle.indexmap.specs.IndexMap.{spare}
use Rattle.vz_deps.specs.declared.bunches.Lack.{Lack}
use Rattle.vz_deps.specs.Bunching.{same_lack, room_in}
use Rattle.vz_deps.specs.Placing.{IsPlaced}
use Rattle.vz_deps.proofs.placing.take_all.Given as goal

-- so many are taken
abbrev pub invariant-loop-nth : goal.invariant-loop-nth
invariant-loop-nth l =
    IsPlaced l.on.entries l.groups l.sinks
    × ((x : Lack) → lookup (same_lack x) l.on.entries ≡ cond ((l.order == x.order) && nat_lt x.nth l.nth) None (lookup (same_lack x) l.fn.on.entries))
    × (spare l.fn.on ≤ spare l.on)
    × (room_in l.fn.groups ≤ room_in l.groups)
    × (room_in l.fn.sinks ≤ room_in l.sinks)
