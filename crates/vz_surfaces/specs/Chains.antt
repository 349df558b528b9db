-- The existing surfaces, by groups.
use Rattle.std.specs.Prelude.{◌≡◌, ℕ, true, false, Bool, not, ◌&&◌, ◌||◌, Option, Some, None, is_some, List, [], ◌∷◌, map, filter, find, reverse, if◌then◌else◌}
use Rattle.std.specs.Option.{option_and_then, option_map_or}
use Rattle.std.specs.List.{Contains}
use Rattle.std.specs.Map.{lookup}
use Rattle.vz_ids.specs.declared.LocalSurfaceId.{LocalSurfaceId}
use Rattle.vz_ids.specs.declared.SurfaceId.{SurfaceId}
use Rattle.vz_ids.specs.declared.SurfaceRange.{SurfaceRange}
use Rattle.vz_ids.specs.declared.Sub.{Sub}
use Rattle.vz_ids.specs.contracts.GroupKeyPartialEq.TheImpl.{eq-value as group_eq}
use Rattle.vz_ids.specs.Ids.{same_sink, same_group, newer, at_least, group_of}
use Rattle.vz_rules.specs.World.{Surface as Created, Submission}
use Rattle.vz_rules.specs.Scene.{or_else}
use Rattle.vz_surfaces.specs.declared.groups.Link.{Link}
use Rattle.vz_surfaces.specs.declared.groups.Group.{Group}
use Rattle.vz_surfaces.specs.declared.groups.Groups.{Groups}
use Rattle.vz_surfaces.specs.declared.held.Held.{Held}
use Rattle.vz_surfaces.specs.declared.table.Surface.{Surface}
use Rattle.vz_surfaces.specs.declared.table.Table.{Table}
use Rattle.vz_surfaces.specs.Stored.{Stored}
use Rattle.vz_surfaces.specs.Reading.{was_reached}
use Rattle.vz_surfaces.specs.declared.waits.Waits.{Waits}
use Rattle.vz_surfaces.specs.declared.owners.Owners.{Owners}
use Rattle.vz_surfaces.specs.Memory.{key_at, under, link_on, Keeps, KeepsMarks, MarksUpTo}

-- two surfaces are in one group, as maps test it
abbrev pub is_group : SurfaceId → SurfaceId → Bool
is_group a b = group_eq.it (group_of a) (group_of b)

-- the group of a surface, if there is one
abbrev pub group_at : Groups → SurfaceId → Option Group
group_at g id = lookup (group_eq.it (group_of id)) g.groups.entries

-- a link without a surface
abbrev pub no_link : Link
no_link = record { id = record { sink = record { client_id = 0; sink_id = 0 }; local = record { parent = 0; child = 0; token = record { 0 = 0 } } }; key = 0 }

-- the links of a surface's group: its surfaces with their keys
abbrev pub links_at : Groups → SurfaceId → List Link
links_at g id = option_map_or (λ (x : Group). x.chain.items) (group_at g id) []

-- the surfaces of these links
abbrev pub ids_of : List Link → List SurfaceId
ids_of links = map (λ (l : Link). l.id) links

-- the surfaces of a surface's group
abbrev pub chain_at : Groups → SurfaceId → List SurfaceId
chain_at g id = ids_of (links_at g id)

-- the newest surface of a surface's group that was ever active
abbrev pub newest_at : Groups → SurfaceId → Option LocalSurfaceId
newest_at g id = option_and_then (λ (x : Group). x.newest) (group_at g id)

-- the newest surface that was ever active is the same as this one, or newer in its group
abbrev pub reaches : Option LocalSurfaceId → SurfaceId → Bool
reaches None d = false
reaches (Some local) d = at_least (record { sink = d.sink; local = local }) d

-- the newer of two local ids
unfoldable pub newer_local : LocalSurfaceId → Option LocalSurfaceId → Option LocalSurfaceId
newer_local local None = Some local
newer_local local (Some other) = if newer local other then Some local else Some other

-- the active submission of the surface with this key, if there is one
abbrev pub acting_under : Table → ℕ → Option Held
acting_under t key = option_and_then (λ (s : Surface). s.active) (under t key)

-- the surface is newer than the other, in the same group
abbrev pub is_newer_id : SurfaceId → SurfaceId → Bool
is_newer_id a b = same_sink a.sink b.sink && newer a.local b.local

-- each surface is newer than those before it
unfoldable pub IsRising : List SurfaceId → Type 0
IsRising [] = Unit {0}
IsRising (x ∷ xs) = ((y : SurfaceId) → Contains xs y → is_newer_id y x ≡ true) × IsRising xs

-- groups have the existing surfaces, in the order of creation, and each group the newest of its
-- surfaces that was ever active
pub record KeepsGroups (g : Groups) (st : Stored) : Type 0 where
  pub chain : (id : SurfaceId) → chain_at g id ≡ map (λ (c : Created). c.id) (filter (λ (c : Created). same_group c.id id && not c.destroyed) st.surfaces)
  pub rising : (id : SurfaceId) → IsRising (chain_at g id)
  pub reached : (d : SurfaceId) → reaches (newest_at g d) d ≡ was_reached st d
  pub made : (d : SurfaceId) (local : LocalSurfaceId) → newest_at g d ≡ Some local
      → (s : Submission) × Contains st.subs s × (s.submitted.id ≡ record { sink = d.sink; local = local }) × (local.token.0 ≡ d.local.token.0)

-- each surface of a group is in the table under its key
pub record KeepsLinks (t : Table) (g : Groups) : Type 0 where
  pub keys : (q : SurfaceId) (l : Link) → Contains (links_at g q) l → key_at t l.id ≡ Some l.key

-- each surface on which a submission waits is in the table under the key of its link
pub record KeepsAwaited (t : Table) (w : Waits) : Type 0 where
  pub keys : (sub : Sub) (l : Link) → link_on w sub ≡ Some l → key_at t l.id ≡ Some l.key

-- the link that was found, if its surface passes the test
abbrev pub that_passes : (SurfaceId → Bool) → Option Link → Option Link
that_passes test None = None
that_passes test (Some l) = if test l.id then Some l else None

-- if the start of a range is in the end's group, the surface is not older than the start
abbrev pub starts_from : Option SurfaceId → SurfaceId → SurfaceId → Bool
starts_from None end id = true
starts_from (Some start) end id = not (same_group start end) || at_least id start

-- the last of these links whose surface has an active frame
unfoldable pub last_acting : Table → List Link → Option Link
last_acting t links = find (λ (l : Link). is_some (acting_under t l.key)) (reverse links)

-- the newest surface in a group with an active frame that is not newer than this surface
abbrev pub newest_to : Table → Groups → SurfaceId → Option Link
newest_to t g end = last_acting t (filter (λ (l : Link). at_least end l.id) (links_at g end))

-- the newest surface with an active frame in the start's group, if that is another group than the
-- end's
abbrev pub newest_from : Table → Groups → Option SurfaceId → SurfaceId → Option Link
newest_from t g None end = None
newest_from t g (Some start) end = if same_group start end then None else that_passes (λ id. at_least id start) (last_acting t (links_at g start))

-- what a range shows
abbrev pub shown_link : Table → Groups → SurfaceRange → Option Link
shown_link t g range = or_else (that_passes (starts_from range.start range.end) (newest_to t g range.end)) (newest_from t g range.start range.end)

-- the memory represents a store
pub record Stands (t : Table) (w : Waits) (o : Owners) (g : Groups) (st : Stored) : Type 0 where
  pub kept : Keeps t w o st
  pub groups : KeepsGroups g st
  pub links : KeepsLinks t g
  pub awaited : KeepsAwaited t w
  pub marks : KeepsMarks o st
  pub marking : MarksUpTo o
