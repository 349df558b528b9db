use Rattle.std.proofs.Common.{◌≡◌, ◌≤◌, filter, drop, length}
use Rattle.std.specs.Option.{option_copied}
use Rattle.vz_rules.specs.Scene.{in_range, newest}
use Rattle.vz_scene.proofs.scene.newest_in.Given as goal

-- best is the newest from k on
abbrev pub invariant-loop-k : goal.invariant-loop-k
invariant-loop-k l =
    record {
      within : l.k ≤ length l.active;
      best : option_copied l.best ≡ newest (filter (in_range l.range) (drop l.k l.active));
    }

abbrev pub decreases-loop-k : goal.decreases-loop-k
decreases-loop-k l = l.k
