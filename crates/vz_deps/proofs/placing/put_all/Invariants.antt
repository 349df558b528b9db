use Rattle.std.proofs.Common.{◌≡◌, ◌≤◌, ◌+◌, ◌==◌, ◌&&◌, nat_lt, cond, slice_get}
use Rattle.std.specs.Map.{lookup}
use Rattle.indexmap.specs.IndexMap.{spare}
use Rattle.vz_deps.specs.declared.bunches.Lack.{Lack}
use Rattle.vz_deps.specs.Bunching.{same_lack, room_in}
use Rattle.vz_deps.specs.Placing.{IsPlaced}
use Rattle.vz_deps.proofs.placing.put_all.Given as goal

-- so many are put
abbrev pub invariant-loop-nth : goal.invariant-loop-nth
invariant-loop-nth l =
    IsPlaced l.on.entries l.groups l.sinks
    × ((x : Lack) → lookup (same_lack x) l.on.entries ≡ cond ((l.order == x.order) && nat_lt x.nth l.nth) (slice_get l.unmet x.nth) (lookup (same_lack x) l.fn.on.entries))
    × (spare l.fn.on ≤ spare l.on + l.nth)
    × (room_in l.fn.groups ≤ room_in l.groups + l.nth)
    × (room_in l.fn.sinks ≤ room_in l.sinks + l.nth)
