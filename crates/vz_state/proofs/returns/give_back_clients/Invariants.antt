use Rattle.std.proofs.Common.{◌≡◌, map, take, drop, length, ◌++◌}
use Rattle.std.specs.List.{flat_map}
use Rattle.vz_rules.specs.Returns.{queue_returns, returns_of}
use Rattle.vz_state.specs.Outs.{IsPutInto}
use Rattle.vz_state.proofs.returns.give_back_clients.Given as goal

-- those so far are changed, the others are as they were, and what went back was told
abbrev pub invariant-loop-k : goal.invariant-loop-k
invariant-loop-k l =
    record {
      count : length l.clients ≡ length l.initial.clients;
      same : l.clients ≡ map (queue_returns l.holders) (take l.k l.initial.clients) ++ drop l.k l.initial.clients;
      told : IsPutInto l.initial.told l.told (flat_map (returns_of l.holders) (take l.k l.initial.clients));
    }
