use Rattle.std.proofs.Common.{◌≡◌, ◌≤◌, length}
use Rattle.vz_geom.specs.Rectangle.{bound}
use Rattle.vz_placement.specs.Limits.{IsInReach}
use Rattle.vz_scene.proofs.Bounding.{damages_from}
use Rattle.vz_scene.proofs.damage.damage_since.Given as goal

-- best is round the damages from k on
abbrev pub invariant-loop-k : goal.invariant-loop-k
invariant-loop-k l =
    record {
      within : l.k ≤ length l.accepted;
      best : l.best ≡ bound (damages_from l.from l.submitted l.accepted l.k);
      reach : IsInReach l.best;
    }

abbrev pub decreases-loop-k : goal.decreases-loop-k
decreases-loop-k l = l.k
