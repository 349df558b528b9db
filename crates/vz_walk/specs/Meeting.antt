-- Visitors of a walk, and the visits that they get.
use Rattle.std.specs.Prelude.{◌≡◌, Bool, true, false, List, ◌++◌}
use Rattle.vz_rules.specs.Walk.{Visit}

-- a visitor stopped at the end of a front part of these visits
pub record IsStopped {V : Type 0} (has_stopped : V → List Visit → Type 0) (visitor : V) (visits : List Visit) : Type 0 where
  pub front : List Visit
  pub back : List Visit
  pub splits : front ++ back ≡ visits
  pub there : has_stopped visitor front

-- a visitor gets these visits in addition to earlier ones if the walk goes on, and otherwise
-- stopped among them
pub record Meets {V : Type 0} (has_met : V → V → List Visit → Type 0) (has_stopped : V → List Visit
    → Type 0) (goes_on : Bool) (old new : V) (visits : List Visit) : Type 0 where
  pub all : (first : V) (before : List Visit) → goes_on ≡ true → has_met first old before → has_met first new (before ++ visits)
  pub some : (first : V) (before : List Visit) → goes_on ≡ false → has_met first old before → IsStopped has_stopped new (before ++ visits)
