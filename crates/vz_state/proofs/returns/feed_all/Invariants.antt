use Rattle.std.proofs.Common.{◌≡◌, map, take, drop, length, ◌++◌}
use Rattle.std.specs.List.{filter_map}
use Rattle.vz_state.specs.Holding.{feedback_by, fed_by}
use Rattle.vz_state.specs.Outs.{IsPutInto}
use Rattle.vz_state.proofs.returns.feed_all.Given as goal

-- those so far are changed, the others are as they were, and their feedback was told
abbrev pub invariant-loop-k : goal.invariant-loop-k
invariant-loop-k l =
    record {
      count : length l.submissions ≡ length l.initial.submissions;
      same : l.submissions ≡ map (fed_by l.in_flight l.presented) (take l.k l.initial.submissions) ++ drop l.k l.initial.submissions;
      told : IsPutInto l.initial.told l.told (filter_map (feedback_by l.in_flight l.presented) (take l.k l.initial.submissions));
    }
