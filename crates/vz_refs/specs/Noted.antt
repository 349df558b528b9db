-- The noted places of surfaces in a list.
use Rattle.std.specs.Prelude.{◌≡◌, ℕ, false, IsTrue, Option, Some, None, List, position, slice_get}
use Rattle.std.specs.List.{list_any}
use Rattle.std.specs.Option.{option_and_then}
use Rattle.indexmap.specs.IndexMap.{get}
use Rattle.vz_ids.specs.declared.SurfaceId.{SurfaceId}
use Rattle.vz_ids.specs.Ids.{same_surface}
use Rattle.vz_refs.specs.declared.notes.Notes.{Notes}

-- the place that is noted at an index, if the surface has one, and otherwise under the surface's
-- id
abbrev pub noted_at : Option ℕ → Notes → SurfaceId → Option ℕ
noted_at (Some index) notes id = slice_get notes.places.items index
noted_at None notes id = get same_surface notes.others id

-- the place that is noted for a surface; a surface that is one of the keys has an index
abbrev pub noted_in : List SurfaceId → Notes → SurfaceId → Option ℕ
noted_in keys notes id = noted_at (position (same_surface id) keys) notes id

-- the same, if there are notes; otherwise none
abbrev pub noted : List SurfaceId → Option Notes → SurfaceId → Option ℕ
noted keys notes id = option_and_then (λ n. noted_in keys n id) notes

-- a place may be noted for this surface, and nothing new is noted for others
abbrev pub IsNoted : (SurfaceId → Option ℕ) → (SurfaceId → Option ℕ) → SurfaceId → ℕ → Type 0
IsNoted before after id place =
    ((p : ℕ) → after id ≡ Some p → p ≡ place)
    × ((other : SurfaceId) (p : ℕ) → same_surface id other ≡ false → after other ≡ Some p → before other ≡ Some p)

-- each surface in the list that has a noted place is at that place
abbrev pub AreNoted : (SurfaceId → Option ℕ) → List SurfaceId → Type 0
AreNoted place out = (id : SurfaceId) (p : ℕ) → place id ≡ Some p → IsTrue (list_any (same_surface id) out) → slice_get out p ≡ Some id
