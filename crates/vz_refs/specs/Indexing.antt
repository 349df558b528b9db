-- The set references, one range at a time, and the indexes over them.
use Rattle.std.specs.Prelude.{◌≡◌, ℕ, ◌-◌, Bool, false, ◌==◌, ◌&&◌, Option, Some, None, List, [], ◌∷◌, ◌++◌, length, take, map, if◌then◌else◌, slice_get}
use Rattle.std.specs.Option.{option_map, option_map_or}
use Rattle.vz_ids.specs.declared.SurfaceId.{SurfaceId}
use Rattle.vz_ids.specs.declared.SurfaceRange.{SurfaceRange}
use Rattle.vz_ids.specs.Ids.{same_surface, same_sink}
use Rattle.vz_frame.specs.Frame.{has_repeat}
use Rattle.vz_refs.specs.Referring.{Ranged, is_set, ranges_of, removing}
use Rattle.vz_refs.specs.declared.listing.Changes.{Changes}
use Rattle.vz_refs.specs.declared.listing.Changes.TheVariants.{Nothing, Opened', Longer', Shorter', Removed'}
use Rattle.vz_refs.specs.declared.sets.Nth.{Nth}
use Rattle.vz_ids.specs.Ids.{group_of}
use Rattle.vz_ids.specs.declared.GroupKey.{GroupKey}
use Rattle.vz_refs.specs.declared.sets.Place.{Place}
use Rattle.vz_refs.specs.declared.sets.Edge.{Edge}
use Rattle.vz_refs.specs.Seated.{IsSeated}

-- the ranges of a surface change
abbrev pub change_one : (List SurfaceRange → List SurfaceRange) → SurfaceId → Ranged → Ranged
change_one f id s = if same_surface s.id id then record { id = s.id; ranges = f s.ranges } else s

-- the ranges of a surface change, if the surface is set
unfoldable pub changing : (List SurfaceRange → List SurfaceRange) → SurfaceId → List Ranged → List Ranged
changing f id sets = map (change_one f id) sets

-- the ranges with one more at the end
abbrev pub one_more : SurfaceRange → List SurfaceRange → List SurfaceRange
one_more range ranges = ranges ++ range ∷ []

-- the ranges without the last one
abbrev pub but_last : List SurfaceRange → List SurfaceRange
but_last ranges = take (length ranges - 1) ranges

-- a surface is set from now on; it keeps its ranges if it has some
unfoldable pub opening : SurfaceId → List Ranged → List Ranged
opening id sets = if is_set sets id then sets else sets ++ record { id = id; ranges = [] } ∷ []

-- the set references after these changes
unfoldable pub listed : Changes → List Ranged
listed Nothing = []
listed (Opened' id mark below) = opening id (listed below)
listed (Longer' id range mark below) = changing (one_more range) id (listed below)
listed (Shorter' id mark below) = changing but_last id (listed below)
listed (Removed' id mark below) = removing id (listed below)

-- both are the same place among the ranges of the same surface
abbrev pub same_nth : Nth → Nth → Bool
same_nth a b = same_surface a.of b.of && (a.nth == b.nth)

-- both are the same sink with the same token
abbrev pub same_key : GroupKey → GroupKey → Bool
same_key a b = same_sink a.sink b.sink && (a.token.0 == b.token.0)

-- both are the same place in the same group
abbrev pub same_place : Place → Place → Bool
same_place a b = same_key a.group b.group && (a.at == b.at)

-- the place of a range in the group of its end
abbrev pub place_of : Edge → Place
place_of e = record { group = group_of e.range.end; at = e.at }

-- the number, or 0 if there is none
abbrev pub or_zero : Option ℕ → ℕ
or_zero o = option_map_or (λ n. n) o 0

-- the set references as contracts see them, in the order in which they were set; the same in the
-- order of the index; and the reserved room
pub record Known : Type 0 where
  pub list : List Ranged
  pub keys : List SurfaceId
  pub spare : ℕ

-- the indexes agree with what is set: how many ranges each surface has, each of these ranges, and
-- for each group the ranges whose end is in it
pub record IsIndexed (sets : List Ranged) (count : SurfaceId → Option ℕ) (edge : Nth → Option Edge) (ends : Place → Option Nth) (size : GroupKey → Option ℕ) : Type 0 where
  pub counted : (id : SurfaceId) → count id ≡ (if is_set sets id then Some (length (ranges_of sets id)) else None)
  pub ranged : (n : Nth) → option_map (λ e. e.range) (edge n) ≡ slice_get (ranges_of sets n.of) n.nth
  pub seated : IsSeated place_of edge ends (λ h. or_zero (size h))
  pub once : has_repeat same_surface (map (λ s. s.id) sets) ≡ false
