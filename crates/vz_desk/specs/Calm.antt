-- The clients that a pause waits for.
use Rattle.std.specs.Prelude.{ℕ, Bool, not, ◌&&◌}
use Rattle.vz_rules.specs.World.{Machine}
use Rattle.vz_machine.specs.Stepping.{attached_at, idle_at, answered_at}

-- a client is attached, is not idle, and has not answered the tick
abbrev pub restless_at : Machine → ℕ → Bool
restless_at m c = attached_at m c && (not (idle_at m c) && not (answered_at m c))
