use Rattle.std.proofs.Common.{◌≡◌, ◌≤◌, length}
use Rattle.vz_ids.specs.Ids.{same_surface}
use Rattle.vz_rules.specs.Closure.{closure}
use Rattle.vz_rules.specs.Reach.{referenced, roots}
use Rattle.vz_rules.proofs.Reached.{self_same}
use Rattle.vz_slow.proofs.Asked_once.{AreAsked}
use Rattle.vz_slow.proofs.world.World.reach_over.Given as goal

-- so many steps are left, and the first so many surfaces were asked
abbrev pub invariant-loop-left : goal.invariant-loop-left
invariant-loop-left l =
    record {
      left : closure same_surface (referenced l.self) (length l.active) (roots l.self) ≡ closure same_surface (referenced l.self) l.left l.ids;
      within : l.asked ≤ length l.ids;
      asked : AreAsked same_surface self_same (referenced l.self) l.asked l.ids;
    }

abbrev pub decreases-loop-left : goal.decreases-loop-left
decreases-loop-left l = l.left
