use Rattle.std.proofs.Common.{◌≡◌, ◌≤◌, drop, length}
use Rattle.vz_geom.specs.Rectangle.{bound}
use Rattle.vz_scene.proofs.damage.bound.Given as goal

-- best is round those from k on
abbrev pub invariant-loop-k : goal.invariant-loop-k
invariant-loop-k l =
    record {
      within : l.k ≤ length l.rects;
      best : l.best ≡ bound (drop l.k l.rects);
    }

abbrev pub decreases-loop-k : goal.decreases-loop-k
decreases-loop-k l = l.k
