use Rattle.std.proofs.Common.{◌≡◌, map, take, drop, length, ◌++◌}
use Rattle.vz_rules.specs.Reach.{drop_on}
use Rattle.vz_state.proofs.lost.drop_all.Given as goal

-- those so far are changed, and the others are as they were
abbrev pub invariant-loop-k : goal.invariant-loop-k
invariant-loop-k l =
    record {
      count : length l.submissions ≡ length l.initial.submissions;
      same : l.submissions ≡ map (drop_on l.lost) (take l.k l.initial.submissions) ++ drop l.k l.initial.submissions;
    }
