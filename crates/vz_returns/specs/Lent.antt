-- What clients lent, and how it represents the machine's state.
use Rattle.std.specs.Prelude.{◌≡◌, ℕ, ◌-◌, ◌<◌, ◌≤◌, Some, List, [], ◌∷◌, length, slice_get}
use Rattle.std.specs.List.{Contains, sum_by}
use Rattle.vz_rules.specs.World.{World, Client}
use Rattle.vz_returns.specs.Held.{MOST_REFERENCES, Counted, Holding, received_of, alive_of, lent, shared}
use Rattle.vz_returns.specs.Released.{AreCounts, times}

-- what one client lent: the counts of its references and its queue; the references released since
-- the last give-back; and the reserved room for so many more resources and so many more references
pub record Lent : Type 0 where
  pub holding : Holding
  pub released : List ℕ
  pub spare : ℕ
  pub places : ℕ

-- the number of references of a client's resources that are alive
unfoldable pub all_alive : List Counted → ℕ
all_alive list = sum_by (λ (c : Counted). c.alive) list

-- each of these resources is lent once more
abbrev pub lent_all : List ℕ → Holding → Holding
lent_all [] h = h
lent_all (id ∷ ids) h = lent_all ids (lent id h)

-- each of these resources is held once more
abbrev pub shared_all : List ℕ → Holding → Holding
shared_all [] h = h
shared_all (id ∷ ids) h = shared_all ids (shared id h)

-- at least so many references of each resource are alive
abbrev pub Suffice : List ℕ → Holding → Type 0
Suffice ids h = (id : ℕ) → times id ids ≤ alive_of id h.counted

-- fewer references of the resource were received, and fewer are alive, than can be counted
pub record IsCountable (id : ℕ) (h : Holding) : Type 0 where
  pub received : received_of id h.counted < MOST_REFERENCES
  pub alive : alive_of id h.counted < MOST_REFERENCES

-- the same for each of these resources
abbrev pub AreCountable : List ℕ → Holding → Type 0
AreCountable ids h = (id : ℕ) → Contains ids id → IsCountable id h

-- the lenders represent a state: there is one for each client, by number, and its counts are those
-- of the client's references once the released ones are given back
pub record AreLent (w : World) (lenders : List Lent) : Type 0 where
  pub many : length lenders ≡ length w.clients
  pub each : (n : ℕ) (c : Client) (l : Lent) → slice_get w.clients n ≡ Some c → slice_get lenders n ≡ Some l
      → AreCounts w c l.holding l.released

-- there is a client with this number
abbrev pub IsLender : ℕ → List Lent → Type 0
IsLender client lenders = (1 ≤ client) × (client ≤ length lenders)

-- this is what the client with this number lent
abbrev pub IsOf : ℕ → List Lent → Lent → Type 0
IsOf client lenders l = slice_get lenders (client - 1) ≡ Some l

-- all released references were given back
abbrev pub NoneReleased : List Lent → Type 0
NoneReleased lenders = (l : Lent) → Contains lenders l → l.released ≡ []

-- there is room for a client to lend so many more resources
abbrev pub HasRoom : ℕ → ℕ → List Lent → Type 0
HasRoom n client lenders = (l : Lent) → IsOf client lenders l → (n ≤ l.spare) × (n ≤ l.places)

-- there is room to release so many more references of a client
abbrev pub HasPlaces : ℕ → ℕ → List Lent → Type 0
HasPlaces n client lenders = (l : Lent) → IsOf client lenders l → n ≤ l.places

-- the number of resources of all clients that have a reference alive
unfoldable pub resources_out : List Lent → ℕ
resources_out lenders = sum_by (λ (l : Lent). length l.holding.counted) lenders

-- both are the same, and the new one has at least as much room
pub record IsRoomier (old new : Lent) : Type 0 where
  pub holding : new.holding ≡ old.holding
  pub released : new.released ≡ old.released
  pub spare : old.spare ≤ new.spare
  pub places : old.places ≤ new.places

-- nothing changes, except that there may be more room
pub record AreRoomier (old new : List Lent) : Type 0 where
  pub many : length new ≡ length old
  pub each : (n : ℕ) (o l : Lent) → slice_get old n ≡ Some o → slice_get new n ≡ Some l → IsRoomier o l
