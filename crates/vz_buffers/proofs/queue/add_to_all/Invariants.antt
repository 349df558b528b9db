use Rattle.std.proofs.Common.{◌≡◌, map, take, drop, ◌++◌}
use Rattle.std.specs.Option.{option_map}
use Rattle.vz_geom.specs.Rectangle.{join}
use Rattle.vz_buffers.proofs.queue.add_to_all.Given as goal

-- the damage is added to those so far, and the others are as they were
abbrev pub invariant-loop-stale : goal.invariant-loop-stale
invariant-loop-stale l =
    l.stale-items ≡ map (option_map (join l.r)) (take l.stale-index l.initial.stale-items) ++ drop l.stale-index l.initial.stale-items
