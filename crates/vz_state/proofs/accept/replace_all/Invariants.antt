use Rattle.std.proofs.Common.{◌≡◌, map, take, drop, length, ◌++◌}
use Rattle.vz_rules.specs.Messages.{replace_on}
use Rattle.vz_state.proofs.accept.replace_all.Given as goal

-- those so far are changed, and the others are as they were
abbrev pub invariant-loop-k : goal.invariant-loop-k
invariant-loop-k l =
    record {
      count : length l.submissions ≡ length l.initial.submissions;
      same : l.submissions ≡ map (replace_on l.id) (take l.k l.initial.submissions) ++ drop l.k l.initial.submissions;
    }
