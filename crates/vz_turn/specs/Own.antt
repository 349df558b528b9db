-- The entries that one caller made.
use Rattle.std.specs.Prelude.{ℕ, ◌==◌, if◌then◌else◌, List, [], ◌∷◌}
use Rattle.vz_loans.specs.Rule.{Log}
use Rattle.vz_loans.specs.Tokens.{Caller}
use Rattle.vz_rules.specs.Plan.{Plan}
use Rattle.vz_rules.specs.declared.entry.Entry.{Entry}

-- the entries in a log with the number of this caller
abbrev pub own_entries : ℕ → Log Entry → List Entry
own_entries n [] = []
own_entries n (x ∷ xs) = if x.0 == n then x.1 ∷ own_entries n xs else own_entries n xs

-- the entries that the caller of a pass made, among those that it has seen
abbrev pub made_with : Caller Plan Entry → List Entry
made_with t = own_entries t.number t.seen
