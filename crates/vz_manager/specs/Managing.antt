-- The machine that users run: its plan, and the world after the events that it has taken.
use Rattle.std.specs.Prelude.{List, [], ◌∷◌}
use Rattle.vz_rules.specs.declared.entry.Event.{Event}
use Rattle.vz_rules.specs.Plan.{Plan}
use Rattle.vz_rules.specs.World.{World, Machine, opening}
use Rattle.vz_rules.specs.Step.{step_in}

-- the world after events, each answered in turn
unfoldable pub after : Plan → World → List Event → World
after p w [] = w
after p w (e ∷ es) = after p (step_in p w e).world es

-- the machine of a plan after these events, from the opening world
abbrev pub led_to : Plan → List Event → Machine
led_to p es = record { plan = p; world = after p (opening p) es }
