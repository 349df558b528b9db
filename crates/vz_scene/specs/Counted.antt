-- How many quads were met, and whether a path has too many surfaces.
use Rattle.std.specs.Prelude.{◌≡◌, ◌≤◌, ◌+◌, ℕ, Bool, List}
use Rattle.std.specs.List.{list_any}
use Rattle.vz_base.specs.declared.limits.TheConstants.{MOST_WEIGHT}
use Rattle.vz_rules.specs.Walk.{Visit, weight, is_deep}

-- the visits have so many quads, at most one more than the limit, and the flag says whether a path
-- has too many surfaces
pub record IsCounted (visits : List Visit) (count : ℕ) (flag : Bool) : Type 0 where
  pub quads : count ≡ weight visits
  pub few : count ≤ MOST_WEIGHT + 1
  pub deep : flag ≡ list_any is_deep visits
