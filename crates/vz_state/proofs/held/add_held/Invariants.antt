use Rattle.std.proofs.Common.{◌≡◌, ◌++◌, take}
use Rattle.std.specs.List.{filter_map}
use Rattle.vz_rules.specs.Log.{held_resource}
use Rattle.vz_state.proofs.held.add_held.Given as goal

-- those of the resources so far are appended
abbrev pub invariant-loop-resource : goal.invariant-loop-resource
invariant-loop-resource l = l.all.items ≡ l.initial.all.items ++ filter_map (held_resource l.client.number) (take l.resource-index l.resource-items)
