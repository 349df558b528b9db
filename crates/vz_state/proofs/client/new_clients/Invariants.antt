use Rattle.std.proofs.Common.{◌≡◌, ◌+◌, ◌-◌, ◌≤◌, ◌++◌, drop, length}
use Rattle.vz_rules.specs.World.{new_clients}
use Rattle.vz_state.proofs.client.new_clients.Given as goal

-- the clients of the files so far, and those to come
abbrev pub invariant-loop-k : goal.invariant-loop-k
invariant-loop-k l =
    record {
      within : l.k ≤ length l.files;
      same : new_clients 1 l.files ≡ l.clients.items ++ new_clients (l.k + 1) (drop l.k l.files);
    }

abbrev pub decreases-loop-k : goal.decreases-loop-k
decreases-loop-k l = length l.files - l.k
