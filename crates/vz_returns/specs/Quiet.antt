-- Changes that leave the references of clients as they are.
use Rattle.std.specs.Prelude.{◌≡◌}
use Rattle.vz_rules.specs.World.{World, Client}

-- the client changes, and keeps its number, its resources and its queue
pub record KeepsReferences (f : Client → Client) : Type 0 where
  pub number : (c : Client) → (f c).number ≡ c.number
  pub resources : (c : Client) → (f c).resources ≡ c.resources
  pub queue : (c : Client) → (f c).queue ≡ c.queue

-- two states have the same clients, surfaces, submissions and drawn frame
pub record AreAlike (w v : World) : Type 0 where
  pub clients : v.clients ≡ w.clients
  pub surfaces : v.surfaces ≡ w.surfaces
  pub subs : v.subs ≡ w.subs
  pub in_flight : v.in_flight ≡ w.in_flight
