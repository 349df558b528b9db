-- The events that a player or a tester has taken.
use Rattle.std.specs.Prelude.{◌≡◌, List, ◌++◌}
use Rattle.vz_player.specs.Played.{Played}
use Rattle.vz_player.specs.Tested.{Tested}
use Rattle.vz_rules.specs.declared.entry.Event.{Event}
use Rattle.viz_run.specs.Ends.{events_in}

-- the player has the same plan and as many buffers, and has taken these events in addition
pub record HasTaken (events : List Event) (old new : Played) : Type 0 where
  pub plan : new.plan ≡ old.plan
  pub buffers : new.buffers ≡ old.buffers
  pub history : events_in new.history ≡ events_in old.history ++ events

-- the tester has the same plan and point, and has taken these events in addition
pub record HasTested (events : List Event) (old new : Tested) : Type 0 where
  pub plan : new.plan ≡ old.plan
  pub point : new.point ≡ old.point
  pub history : events_in new.history ≡ events_in old.history ++ events
