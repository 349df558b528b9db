use Rattle.std.proofs.Common.{◌≡◌, take}
use Rattle.std.specs.List.{flat_map}
use Rattle.vz_rules.specs.Reach.{referenced}
use Rattle.vz_slow.proofs.world.World.all_referenced.Given as goal

-- what the surfaces so far reference
abbrev pub invariant-loop-id : goal.invariant-loop-id
invariant-loop-id l = l.all.items ≡ flat_map (referenced l.self) (take l.id-index l.ids)
