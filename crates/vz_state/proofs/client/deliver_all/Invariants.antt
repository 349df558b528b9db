use Rattle.std.proofs.Common.{◌≡◌, map, take, drop, length, ◌++◌}
use Rattle.vz_state.specs.Attached.{deliver_by}
use Rattle.vz_state.proofs.client.deliver_all.Given as goal

-- those so far are changed, and the others are as they were
abbrev pub invariant-loop-k : goal.invariant-loop-k
invariant-loop-k l =
    record {
      count : length l.clients ≡ length l.initial.clients;
      same : l.clients ≡ map (deliver_by l.sinks l.tick) (take l.k l.initial.clients) ++ drop l.k l.initial.clients;
    }
