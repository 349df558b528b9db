use Rattle.std.proofs.Common.{◌≡◌, map, take, drop, length, ◌++◌}
use Rattle.vz_rules.specs.World.{Resource}
use Rattle.vz_state.proofs.resource.reclaim_all.Given as goal

-- those so far are changed, and the others are as they were
abbrev pub invariant-loop-k : goal.invariant-loop-k
invariant-loop-k l =
    record {
      count : length l.resources ≡ length l.initial.resources;
      same : l.resources ≡ map (λ (s : Resource). record s { reclaimed = s.queued }) (take l.k l.initial.resources) ++ drop l.k l.initial.resources;
    }
