use Rattle.std.proofs.Common.{◌≡◌, map, filter, take}
use Rattle.vz_rules.specs.World.{Surface}
use Rattle.vz_rules.specs.Reach.{is_temporary}
use Rattle.vz_slow.proofs.world.World.temporary.Given as goal

-- the temporary ones of the surfaces so far
abbrev pub invariant-loop-surface : goal.invariant-loop-surface
invariant-loop-surface l = l.ids.items ≡ map (λ (c : Surface). c.id) (filter (is_temporary l.self) (take l.surface-index l.self.surfaces))
