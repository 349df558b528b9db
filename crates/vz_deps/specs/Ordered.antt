-- The entries of a map whose keys are numbers, as a list by rising numbers.
use Rattle.std.specs.Prelude.{ℕ, Bool, true, ◌&&◌, nat_eq, nat_lt, nat_le, List, [], ◌∷◌, if◌then◌else◌}
use Rattle.std.specs.List.{list_all}

-- an entry is put at its place by its number, and replaces one with that number
unfoldable pub put_in : {V : Type 0} → ℕ × V → List (ℕ × V) → List (ℕ × V)
put_in e [] = e ∷ []
put_in e (x ∷ list) =
    if nat_eq e.0 x.0 then e ∷ list
    else (if nat_lt e.0 x.0 then e ∷ x ∷ list else x ∷ put_in e list)

-- the entries by rising numbers
unfoldable pub in_order : {V : Type 0} → List (ℕ × V) → List (ℕ × V)
in_order [] = []
in_order (e ∷ entries) = put_in e (in_order entries)

-- the numbers rise
unfoldable pub is_rising : {V : Type 0} → List (ℕ × V) → Bool
is_rising [] = true
is_rising (e ∷ list) = list_all (λ x. nat_lt e.0 x.0) list && is_rising list

-- the numbers never fall
unfoldable pub never_falls : List ℕ → Bool
never_falls [] = true
never_falls (n ∷ list) = list_all (λ m. nat_le n m) list && never_falls list
