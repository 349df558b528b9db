use Rattle.std.proofs.Common.{◌≡◌, map, take, drop, length, ◌++◌}
use Rattle.vz_rules.specs.Reach.{destroy}
use Rattle.vz_state.proofs.lost.destroy_all.Given as goal

-- those so far are changed, and the others are as they were
abbrev pub invariant-loop-k : goal.invariant-loop-k
invariant-loop-k l =
    record {
      count : length l.surfaces ≡ length l.initial.surfaces;
      same : l.surfaces ≡ map (destroy l.kept) (take l.k l.initial.surfaces) ++ drop l.k l.initial.surfaces;
    }
