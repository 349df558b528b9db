use Rattle.std.proofs.Common.{◌≡◌, ◌≤◌, filter, drop, length}
use Rattle.std.specs.Option.{option_copied}
use Rattle.vz_rules.specs.Scene.{after_start, newest}
use Rattle.vz_scene.proofs.scene.newest_after.Given as goal

-- best is the newest from k on
abbrev pub invariant-loop-k : goal.invariant-loop-k
invariant-loop-k l =
    record {
      within : l.k ≤ length l.active;
      best : option_copied l.best ≡ newest (filter (after_start l.range.start l.range.end) (drop l.k l.active));
    }

abbrev pub decreases-loop-k : goal.decreases-loop-k
decreases-loop-k l = l.k
