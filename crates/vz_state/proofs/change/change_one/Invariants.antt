use Rattle.std.proofs.Common.{◌≡◌, map, take, drop, length, ◌++◌, ◌==◌, if◌then◌else◌}
use Rattle.vz_rules.specs.World.{Client}
use Rattle.vz_rules.specs.Messages.{took}
use Rattle.vz_state.specs.Changes.{changed_by}
use Rattle.vz_state.proofs.change.change_one.Given as goal

-- those so far are changed, and the others are as they were
abbrev pub invariant-loop-k : goal.invariant-loop-k
invariant-loop-k l =
    record {
      count : length l.clients ≡ length l.initial.clients;
      same : l.clients ≡ map (λ (x : Client). if x.number == l.c then took (changed_by l.change x) else x) (take l.k l.initial.clients) ++ drop l.k l.initial.clients;
    }
