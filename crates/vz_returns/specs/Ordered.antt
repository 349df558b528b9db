-- The counts of a map, as a list by rising ids.
use Rattle.std.specs.Prelude.{ℕ, List, [], ◌∷◌}
use Rattle.vz_returns.specs.declared.counts.Counts.{Counts}
use Rattle.vz_returns.specs.Held.{Counted, put_in}

-- a resource with its counts
abbrev pub counted_of : ℕ → Counts → Counted
counted_of id c = record { id = id; received = c.received; alive = c.alive }

-- the counts of a map by rising ids
unfoldable pub in_order : List (ℕ × Counts) → List Counted
in_order [] = []
in_order (e ∷ entries) = put_in (counted_of e.0 e.1) (in_order entries)
