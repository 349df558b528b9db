-- Counts of faults, and what a result says of them.
use Rattle.std.specs.Prelude.{◌≡◌, ℕ, ◌+◌, ◌<◌, ◌≤◌, ◌⊎◌, nat_lt, if◌then◌else◌, Result, IsErrOf}
use Rattle.vz_outside.specs.declared.shelf.ShelfError.{ShelfError}
use Rattle.vz_outside.specs.declared.shelf.ShelfError.TheVariants.{Failed}

-- the greatest value of a count, at which it stays
abbrev pub greatest_count : ℕ
greatest_count = 18446744073709551615

-- one more, until the greatest count is reached
abbrev pub one_more : ℕ → ℕ
one_more n = if nat_lt n greatest_count then n + 1 else n

-- the count is greater than before, or is at its greatest value
abbrev pub CountRose : ℕ → ℕ → Type 0
CountRose before after = (before < after) ⊎ (greatest_count ≤ after)

-- one fault was counted if the result is `Failed`, and none otherwise
pub record HasCause {T : Type 0} (before after : ℕ) (result : Result T ShelfError) : Type 0 where
  pub failed : IsErrOf result Failed → after ≡ one_more before
  pub quiet : (IsErrOf result Failed → ⊥) → after ≡ before
