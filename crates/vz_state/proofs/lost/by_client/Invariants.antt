use Rattle.std.proofs.Common.{◌≡◌, take}
use Rattle.std.specs.List.{flat_map}
use Rattle.vz_rules.specs.Reach.{lost_of}
use Rattle.vz_state.proofs.lost.by_client.Given as goal

-- those of the clients so far
abbrev pub invariant-loop-client : goal.invariant-loop-client
invariant-loop-client l = l.all.items ≡ flat_map (lost_of l.lost) (take l.client-index l.clients)
