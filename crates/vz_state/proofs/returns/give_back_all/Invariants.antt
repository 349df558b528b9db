use Rattle.std.proofs.Common.{◌≡◌, map, take, drop, length, ◌++◌}
use Rattle.std.specs.List.{filter_map}
use Rattle.vz_rules.specs.Returns.{queue_resource, return_of}
use Rattle.vz_state.specs.Outs.{IsPutInto}
use Rattle.vz_state.proofs.returns.give_back_all.Given as goal

-- those so far are changed, the others are as they were, and what went back was put into both lists
abbrev pub invariant-loop-k : goal.invariant-loop-k
invariant-loop-k l =
    record {
      count : length l.resources ≡ length l.initial.resources;
      same : l.resources ≡ map (queue_resource l.holders l.c) (take l.k l.initial.resources) ++ drop l.k l.initial.resources;
      queued : IsPutInto l.initial.queue l.queue (filter_map (return_of l.holders l.c) (take l.k l.initial.resources));
      told : IsPutInto l.initial.told l.told (filter_map (return_of l.holders l.c) (take l.k l.initial.resources));
    }
