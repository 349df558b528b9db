-- The places of numbers in a list.
use Rattle.std.specs.Prelude.{ℕ, ◌+◌, ◌==◌, nat_lt, Bool, false, if◌then◌else◌, List, [], ◌∷◌, Option, Some, None}

-- the following place, if there is one
abbrev pub behind : Option ℕ → Option ℕ
behind None = None
behind (Some place) = Some (place + 1)

-- the first place at which a list has a number, if it has it
unfoldable pub first_place : ℕ → List ℕ → Option ℕ
first_place n [] = None
first_place n (x ∷ xs) = if x == n then Some 0 else behind (first_place n xs)

-- there is a place, and it is below a limit
abbrev pub is_before : ℕ → Option ℕ → Bool
is_before limit None = false
is_before limit (Some place) = nat_lt place limit
