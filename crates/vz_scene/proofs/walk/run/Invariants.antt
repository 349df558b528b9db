use Rattle.std.proofs.Common.{◌≡◌, ◌+◌, ◌-◌, ◌*◌, ◌++◌, List, length}
use Rattle.vz_rules.specs.Walk.{Visit, weight}
use Rattle.vz_scene.specs.Walking.{stack_walked}
use Rattle.vz_scene.proofs.walk.run.Given as goal

-- what was met, and what is still to be walked
abbrev pub invariant-quads : goal.invariant-quads
invariant-quads l = (all : List Visit) → all ≡ l.initial.walked ++ stack_walked l.active l.initial.stack.items → all ≡ l.walked ++ stack_walked l.active l.stack.items

-- two for each quad that may still be met, and one for each cursor
abbrev pub decreases-quads : goal.decreases-quads
decreases-quads l = 2 * (65537 - weight l.walked) + length l.stack.items
