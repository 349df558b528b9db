use Rattle.std.proofs.Common.{◌≡◌, map, take, drop, length, ◌++◌}
use Rattle.vz_rules.specs.Messages.{mark_of}
use Rattle.vz_state.proofs.surface.mark_client.Given as goal

-- those so far are changed, and the others are as they were
abbrev pub invariant-loop-k : goal.invariant-loop-k
invariant-loop-k l =
    record {
      count : length l.surfaces ≡ length l.initial.surfaces;
      same : l.surfaces ≡ map (mark_of l.c) (take l.k l.initial.surfaces) ++ drop l.k l.initial.surfaces;
    }
