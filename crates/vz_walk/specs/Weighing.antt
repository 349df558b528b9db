-- How many quads a walk met, and whether that is too much.
use Rattle.std.specs.Prelude.{◌≡◌, ℕ, true, false, MatchOption, Option, List}
use Rattle.vz_rules.specs.Walk.{Visit, weight, too_much}

-- so many quads are among the visits, and they are not too much
pub record IsWeighed (count : ℕ) (visits : List Visit) : Type 0 where
  pub quads : count ≡ weight visits
  pub few : too_much visits ≡ false

-- the visits are too much
abbrev pub IsHeavy : List Visit → Type 0
IsHeavy visits = too_much visits ≡ true

-- the weight of visits, or None if they are too much
abbrev pub IsWeightOf : List Visit → Option ℕ → Type 0
IsWeightOf visits o = MatchOption o (too_much visits ≡ true) (λ n. (n ≡ weight visits) × (too_much visits ≡ false))
