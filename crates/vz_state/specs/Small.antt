-- Worlds whose numbers are small. Every world that a plan leads to is one.
use Rattle.std.specs.Prelude.{◌≡◌, ◌≤◌, ◌*◌, ◌+◌, ℕ, Some, List, length, slice_get}
use Rattle.std.specs.List.{Contains}
use Rattle.vz_base.specs.declared.limits.TheConstants.{LAST_TICK, MOST_FILES, MOST_MESSAGES}
use Rattle.vz_rules.specs.World.{World, Client, Resource}

-- no resource was lent more often than a client can have messages
abbrev pub AreSmallResources : List Resource → Type 0
AreSmallResources resources = (r : Resource) → Contains resources r → r.lent ≤ MOST_MESSAGES

-- a client has few messages, and its resources are small
pub record IsSmallClient (c : Client) : Type 0 where
  pub taken : c.taken ≤ MOST_MESSAGES
  pub resources : AreSmallResources c.resources

-- the same for each of these clients
abbrev pub AreSmallClients : List Client → Type 0
AreSmallClients clients = (c : Client) → Contains clients c → IsSmallClient c

-- the clients are numbered from a number on
abbrev pub AreNumbered : ℕ → List Client → Type 0
AreNumbered first clients = (n : ℕ) (c : Client) → slice_get clients n ≡ Some c → c.number ≡ n + first

-- few submissions were accepted, few surfaces were created, and the tick is not one of the last
pub record IsSmall (w : World) : Type 0 where
  pub tick : w.tick ≤ LAST_TICK
  pub clients : AreSmallClients w.clients
  pub accepted : length w.subs ≤ MOST_FILES * MOST_MESSAGES
  pub created : length w.surfaces ≤ MOST_FILES * MOST_MESSAGES
