-- The references that are set for surfaces, the temporary surfaces, and the surfaces that a
-- surface leads to.
use Rattle.std.specs.Prelude.{ℕ, Bool, not, nat_lt, Option, List, [], ◌∷◌, ◌++◌, map, filter, if◌then◌else◌}
use Rattle.std.specs.Option.{option_to_list}
use Rattle.std.specs.List.{list_any, filter_map}
use Rattle.vz_ids.specs.declared.FrameSinkId.{FrameSinkId}
use Rattle.vz_ids.specs.declared.SurfaceId.{SurfaceId}
use Rattle.vz_ids.specs.declared.SurfaceRange.{SurfaceRange}
use Rattle.vz_ids.specs.Ids.{same_surface, same_sink}
use Rattle.vz_rules.specs.Reach.{names}

-- a surface, and the ranges that are set for it
pub record Ranged : Type 0 where
  pub id : SurfaceId
  pub ranges : List SurfaceRange

-- a surface that is temporary until a tick
pub record Temporary : Type 0 where
  pub id : SurfaceId
  pub until : ℕ

-- the set references and the temporary surfaces, with reserved room for surfaces and ranges, and
-- for temporary surfaces
pub record Referring : Type 0 where
  pub sets : List Ranged
  pub temporary : List Temporary
  pub spare : ℕ
  pub room : ℕ

-- ranges are set for a surface
abbrev pub is_set : List Ranged → SurfaceId → Bool
is_set sets id = list_any (λ s. same_surface s.id id) sets

-- the ranges that are set for a surface
unfoldable pub ranges_of : List Ranged → SurfaceId → List SurfaceRange
ranges_of [] id = []
ranges_of (s ∷ sets) id = if same_surface s.id id then s.ranges else ranges_of sets id

-- the ranges of this surface are replaced
abbrev pub set_one : SurfaceId → List SurfaceRange → Ranged → Ranged
set_one id ranges s = if same_surface s.id id then record { id = s.id; ranges = ranges } else s

-- the surface is set with these ranges, which replace those that it had
unfoldable pub setting : SurfaceId → List SurfaceRange → List Ranged → List Ranged
setting id ranges sets =
    if is_set sets id then map (set_one id ranges) sets else sets ++ record { id = id; ranges = ranges } ∷ []

-- the surface is no longer set
unfoldable pub removing : SurfaceId → List Ranged → List Ranged
removing id sets = filter (λ s. not (same_surface s.id id)) sets

-- some of these ranges names a surface
unfoldable pub is_named_by : List SurfaceRange → SurfaceId → Bool
is_named_by ranges id = list_any (names id) ranges

-- some range that is set names the surface
unfoldable pub is_named_in : List Ranged → SurfaceId → Bool
is_named_in sets id = list_any (λ s. is_named_by s.ranges id) sets

-- a surface becomes temporary, unless some range that is set names it
unfoldable pub keeping : List Ranged → SurfaceId → ℕ → List Temporary → List Temporary
keeping sets id until kept =
    if is_named_in sets id then kept else kept ++ record { id = id; until = until } ∷ []

-- the temporary surfaces that none of these ranges names
unfoldable pub unnamed : List SurfaceRange → List Temporary → List Temporary
unnamed ranges kept = filter (λ t. not (is_named_by ranges t.id)) kept

-- the temporary surfaces that last longer than this tick
unfoldable pub lasting : ℕ → List Temporary → List Temporary
lasting n kept = filter (λ t. nat_lt n t.until) kept

-- the temporary surfaces of other sinks
unfoldable pub of_others : FrameSinkId → List Temporary → List Temporary
of_others sink kept = filter (λ t. not (same_sink t.id.sink sink)) kept

-- the surfaces that the ranges of a surface show
unfoldable pub next_in : (SurfaceRange → Option SurfaceId) → List Ranged → SurfaceId → List SurfaceId
next_in shows sets id = filter_map shows (ranges_of sets id)

-- the surfaces from which reaching starts: the root, if there is one, and the temporary surfaces
unfoldable pub starts : Option SurfaceId → List Temporary → List SurfaceId
starts root kept = option_to_list root ++ map (λ t. t.id) kept
