-- The events of the demonstration.
use Rattle.std.specs.Prelude.{ℕ, zero, suc, List, [], ◌∷◌, ◌++◌, replicate}
use Rattle.vz_rules.specs.declared.entry.Event.{Event}
use Rattle.vz_rules.specs.declared.entry.Event.TheVariants as event

-- four messages of one client
abbrev pub four : ℕ → List Event
four c = replicate 4 (event.Client c)

-- a round: a begin-frame, four messages of each child, and a drawing with its end
abbrev pub round : List Event
round = event.Begin ∷ (four 2 ++ four 3 ++ event.Draw ∷ event.Done ∷ [])

-- so many rounds
unfoldable pub rounds : ℕ → List Event
rounds zero = []
rounds (suc n) = round ++ rounds n

-- the page's messages, and then n rounds
abbrev pub demo_events : ℕ → List Event
demo_events n = four 1 ++ rounds n
