-- What memory has of a store, and what that represents.
use Rattle.std.specs.Prelude.{◌≡◌, ℕ, ◌+◌, ◌-◌, ◌≤◌, ◌<◌, ◌&&◌, Bool, true, IsTrue, IsSome, Option, Some, None, is_some, List, length, find, count_by, get_or, nat_le, if◌then◌else◌}
use Rattle.std.specs.Option.{option_map, option_and_then}
use Rattle.std.specs.List.{Contains, list_any}
use Rattle.std.specs.Map.{lookup}
use Rattle.slab.specs.Slab.{get, HasRoomFor}
use Rattle.indexmap.specs.IndexMap.{spare}
use Rattle.vz_geom.specs.declared.Size.{Size}
use Rattle.vz_ids.specs.declared.FrameSinkId.{FrameSinkId}
use Rattle.vz_ids.specs.declared.LocalSurfaceId.{LocalSurfaceId}
use Rattle.vz_ids.specs.declared.SurfaceId.{SurfaceId}
use Rattle.vz_ids.specs.Ids.{same_local, same_sub}
use Rattle.vz_ids.specs.declared.Sub.{Sub}
use Rattle.vz_ids.specs.contracts.SurfaceIdPartialEq.TheImpl.{eq-value as surface_eq}
use Rattle.vz_ids.specs.contracts.SubPartialEq.TheImpl.{eq-value as sub_eq}
use Rattle.vz_pixels.specs.Block.{Block}
use Rattle.vz_frame.specs.declared.frame.CompositorFrame.{CompositorFrame}
use Rattle.vz_rules.specs.World.{Surface as Created, Submission, is_waiting, is_active, is_on, sub_of}
use Rattle.vz_rules.specs.Kept.{is_by, is_surface_of}
use Rattle.vz_surfaces.specs.declared.groups.Link.{Link}
use Rattle.vz_surfaces.specs.declared.held.Held.{Held}
use Rattle.vz_surfaces.specs.declared.table.Surface.{Surface}
use Rattle.vz_surfaces.specs.declared.table.Table.{Table}
use Rattle.vz_surfaces.specs.declared.waits.Waits.{Waits}
use Rattle.vz_surfaces.specs.declared.owners.Owner.{Owner}
use Rattle.vz_surfaces.specs.declared.owners.Owners.{Owners}
use Rattle.vz_surfaces.specs.Stored.{Stored, named_in}
use Rattle.vz_surfaces.specs.Reading.{standing, existing_count, held_of, last_of}

-- the test of keys in tables: sink and local id are equal
abbrev pub is_key : SurfaceId → SurfaceId → Bool
is_key = surface_eq.it

-- the key of an id in the table, if it is there
abbrev pub key_at : Table → SurfaceId → Option ℕ
key_at t id = lookup (is_key id) t.keys.entries

-- the surface with this key, if there is one
abbrev pub under : Table → ℕ → Option Surface
under t key = get t.surfaces key

-- the surface with this id, if the table has it
abbrev pub look : Table → SurfaceId → Option Surface
look t id = option_and_then (under t) (key_at t id)

-- the key of each id leads to a surface, and no two ids have the same key
pub record IsKeyed (t : Table) : Type 0 where
  pub there : (id : SurfaceId) (key : ℕ) → key_at t id ≡ Some key → IsSome (under t key)
  pub apart : (a b : SurfaceId) (key : ℕ) → key_at t a ≡ Some key → key_at t b ≡ Some key → is_key a b ≡ true

-- both tables have the same surfaces with the same keys
pub record HasSame (old new : Table) : Type 0 where
  pub keys : new.keys.entries ≡ old.keys.entries
  pub slots : new.surfaces.slots ≡ old.surfaces.slots

-- there is room for one more surface
pub record HasSpare (t : Table) : Type 0 where
  pub surfaces : HasRoomFor t.surfaces 1
  pub keys : 0 < spare t.keys

-- a surface after one more submission waits on it
abbrev pub holding : Sub → CompositorFrame → List Block → Surface → Surface
holding sub frame blocks s =
    record s {
      accepted = s.accepted + 1;
      waiting = Some (record { sub = sub; index = s.accepted + 1; frame = frame; blocks = blocks });
    }

-- a surface after its waiting submission became active
abbrev pub raised : Surface → Surface
raised s = record s { waiting = None; active = s.waiting }

-- the first submission on a surface that passes a test, as memory has it
abbrev pub held_in : (Submission → Bool) → SurfaceId → List Submission → Option Held
held_in test id subs = option_map (λ (s : Submission). held_of s.submitted) (find (λ s. test s && is_on id s) subs)

-- a created surface, as memory has it
abbrev pub kept_of : SurfaceId → List Submission → Created → Surface
kept_of id subs c =
    record {
      client = c.client;
      number = c.number;
      accepted = count_by (is_on id) subs;
      waiting = held_in is_waiting id subs;
      active = held_in is_active id subs;
    }

-- a surface, as memory has it, if it exists
unfoldable pub surface_at : Stored → SurfaceId → Option Surface
surface_at st id = option_map (kept_of id st.subs) (standing id st.surfaces)

-- the table has exactly the surfaces that exist
pub record KeepsTable (t : Table) (st : Stored) : Type 0 where
  pub surfaces : (id : SurfaceId) → look t id ≡ surface_at st id
  pub count : length t.keys.entries ≡ existing_count st
  pub keyed : IsKeyed t

-- the test of names in the index: client and ordinal are equal
abbrev pub is_name : Sub → Sub → Bool
is_name = sub_eq.it

-- the surface on which a submission waits, with its key, if the index has it
abbrev pub link_on : Waits → Sub → Option Link
link_on w sub = lookup (is_name sub) w.surfaces.entries

-- the surface on which a submission waits, if the index has it
abbrev pub waits_on : Waits → Sub → Option SurfaceId
waits_on w sub = option_map (λ (l : Link). l.id) (link_on w sub)

-- the submission with this name waits
unfoldable pub is_waiting_in : Stored → Sub → Bool
is_waiting_in st sub = list_any (λ s. is_waiting s && same_sub (sub_of s) sub) st.subs

-- each waiting submission is found, and no other name is
pub record FindsWaiting (w : Waits) (st : Stored) : Type 0 where
  pub found : (s : Submission) → Contains st.subs s → IsTrue (is_waiting s) → waits_on w (sub_of s) ≡ Some s.submitted.id
  pub only : (sub : Sub) → IsTrue (is_some (waits_on w sub)) → IsTrue (is_waiting_in st sub)

-- the counts of a client without submissions
abbrev pub no_owner : Owner
no_owner = record { accepted = 0; created = 0; last = None; marked_to = 0 }

-- the counts of the client with this number
abbrev pub owner_at : Owners → ℕ → Owner
owner_at o c = get_or o.owners.value (c - 1) no_owner

-- the client's number is one that plans can have
abbrev pub HasNumber : ℕ → Type 0
HasNumber c = (1 ≤ c) × (c ≤ 16)

-- no client above a number, which is not above 16, has marked surfaces
pub record MarksUpTo (o : Owners) : Type 0 where
  pub most : o.marking ≤ 16
  pub above : (c : ℕ) → HasNumber c → o.marking < c → (owner_at o c).marked_to ≡ 0

-- the counts of all clients are right
pub record KeepsOwners (o : Owners) (st : Stored) : Type 0 where
  pub accepted : (c : ℕ) → HasNumber c → (owner_at o c).accepted ≡ count_by (is_by c) st.subs
  pub created : (c : ℕ) → HasNumber c → (owner_at o c).created ≡ count_by (is_surface_of c) st.surfaces
  pub last : (c : ℕ) → HasNumber c → (owner_at o c).last ≡ last_of c st

-- a new surface, before its first submission waits on it
abbrev pub empty_surface : ℕ → ℕ → Surface
empty_surface c number = record { client = c; number = number; accepted = 0; waiting = None; active = None }

-- the local id is that of the client's last surface
abbrev pub is_named_last : Option (LocalSurfaceId × Size) → LocalSurfaceId → Bool
is_named_last None local = Bool.false
is_named_last (Some p) local = same_local p.0 local

-- the counts of a client after one more submission, on its last surface or on a new one
abbrev pub counting : Bool → LocalSurfaceId → Size → Owner → Owner
counting last local size o =
    record {
      accepted = o.accepted + 1;
      created = (if last then o.created else o.created + 1);
      last = (if last then o.last else Some (local, size));
      marked_to = o.marked_to;
    }

-- a client's surfaces are marked up to this number
abbrev pub marked_up : ℕ → Owner → Owner
marked_up number o = if nat_le number o.marked_to then o else record o { marked_to = number }

-- the name of the waiting submission on a surface, if there is one
unfoldable pub waiting_on : Stored → SurfaceId → Option Sub
waiting_on st id = option_map (λ (s : Submission). sub_of s) (find (λ s. is_waiting s && is_on id s) st.subs)

-- the sink is that of every surface that the client created, and of no other client's surface
pub record IsSinkOf (c : ℕ) (sink : FrameSinkId) (st : Stored) : Type 0 where
  pub own : (s : Created) → Contains st.surfaces s → s.client ≡ c → s.id.sink ≡ sink
  pub alone : (s : Created) → Contains st.surfaces s → s.id.sink ≡ sink → s.client ≡ c

-- the name of the active submission on a surface, if there is one
unfoldable pub acting_on : Stored → SurfaceId → Option Sub
acting_on st id = option_map (λ (s : Submission). sub_of s) (find (λ s. is_active s && is_on id s) st.subs)

-- the submission that is past once the one with this name becomes active
unfoldable pub past_by : Stored → Sub → Option Sub
past_by st sub = elim (named_in sub st.subs) [ Some s ↦ acting_on st s.submitted.id | None ↦ None ]

-- the marked surfaces of a client are those up to a number
pub record KeepsMarks (o : Owners) (st : Stored) : Type 0 where
  pub clients : (s : Created) → Contains st.surfaces s → HasNumber s.client
  pub numbers : (s : Created) → Contains st.surfaces s → (1 ≤ s.number) × (s.number ≤ (owner_at o s.client).created)
  pub marks : (s : Created) → Contains st.surfaces s → s.marked ≡ nat_le s.number (owner_at o s.client).marked_to
  pub created : (c : ℕ) → HasNumber c → (owner_at o c).marked_to ≤ (owner_at o c).created

-- the memory represents a store
pub record Keeps (t : Table) (w : Waits) (o : Owners) (st : Stored) : Type 0 where
  pub table : KeepsTable t st
  pub waits : FindsWaiting w st
  pub owners : KeepsOwners o st
