use Rattle.std.proofs.Common.{◌≡◌, take}
use Rattle.std.specs.List.{flat_map}
use Rattle.vz_rules.specs.Log.{unfed_of}
use Rattle.vz_slow.proofs.world.World.all_unfed.Given as goal

-- the submissions of the clients so far
abbrev pub invariant-loop-client : goal.invariant-loop-client
invariant-loop-client l = l.all.items ≡ flat_map (unfed_of l.self) (take l.client-index l.clients)
