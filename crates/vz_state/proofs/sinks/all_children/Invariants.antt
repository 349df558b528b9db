use Rattle.std.proofs.Common.{◌≡◌, take}
use Rattle.std.specs.List.{flat_map}
use Rattle.vz_rules.specs.Messages.{children}
use Rattle.vz_state.proofs.sinks.all_children.Given as goal

-- the children of the sinks so far
abbrev pub invariant-loop-sink : goal.invariant-loop-sink
invariant-loop-sink l = l.all.items ≡ flat_map (children l.relations) (take l.sink-index l.sinks)
