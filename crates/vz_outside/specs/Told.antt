-- What a gate was told.
use Rattle.std.specs.Prelude.{ℕ, ◌-◌, ◌^◌, ◌<◌, ◌≤◌, min}

-- a call of a gate: before or after a step of this actor, with the number of the step
pub data Call : Type 0 where
  Before : ℕ → ℕ → Call
  After : ℕ → ℕ → Call

-- a gate was told of the step of an actor with this number, before it and after it
pub record IsTold (told : Call → Type 0) (actor number : ℕ) : Type 0 where
  pub before : told (Before actor number)
  pub after : told (After actor number)

-- the number by which a gate knows a step: it stays at the greatest number of 64 bits
abbrev pub number_of : ℕ → ℕ
number_of n = min n (2 ^ 64 - 1)

-- a gate was told of each step of an actor beyond the first ones, up to so many steps
abbrev pub AreTold : (Call → Type 0) → ℕ → ℕ → ℕ → Type 0
AreTold told actor first upto = (n : ℕ) → first < n → n ≤ upto → IsTold told actor (number_of n)
