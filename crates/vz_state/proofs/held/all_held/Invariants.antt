use Rattle.std.proofs.Common.{◌≡◌, take}
use Rattle.std.specs.List.{flat_map, filter_map}
use Rattle.vz_rules.specs.World.{Client}
use Rattle.vz_rules.specs.Log.{held_resource}
use Rattle.vz_state.proofs.held.all_held.Given as goal

-- the references of the clients so far
abbrev pub invariant-loop-client : goal.invariant-loop-client
invariant-loop-client l = l.all.items ≡ flat_map (λ (c : Client). filter_map (held_resource c.number) c.resources) (take l.client-index l.clients)
