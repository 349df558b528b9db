-- The newest surface of each group.
use Rattle.std.specs.Prelude.{◌≡◌, Bool, false, ◌||◌, Option, Some, None, List}
use Rattle.std.specs.List.{list_any}
use Rattle.std.specs.BTreeMap.{BTreeMap, get}
use Rattle.vz_ids.specs.declared.SurfaceId.{SurfaceId}
use Rattle.vz_ids.specs.Ids.{at_least, group_of}
use Rattle.vz_ids.specs.declared.GroupKey.{GroupKey}
use Rattle.vz_scene.specs.Groups.{by_group}

-- there is a surface, and it is the same as the other or newer in its group
abbrev pub is_at_least_in : Option SurfaceId → SurfaceId → Bool
is_at_least_in None d = false
is_at_least_in (Some id) d = at_least id d

-- one of these surfaces is the same as the other or newer in its group
abbrev pub is_reached : List SurfaceId → SurfaceId → Bool
is_reached ids d = list_any (λ (i : SurfaceId). at_least i d) ids

-- the map's surface for a group, or one of these others, is the same as the surface or newer in
-- its group
abbrev pub reaches : BTreeMap GroupKey SurfaceId → List SurfaceId → SurfaceId → Bool
reaches groups others d = is_at_least_in (get by_group groups (group_of d)) d || is_reached others d

-- the map and the others meet exactly the dependencies that these surfaces meet
abbrev pub AreNewest : BTreeMap GroupKey SurfaceId → List SurfaceId → List SurfaceId → Type 0
AreNewest groups others all = (d : SurfaceId) → reaches groups others d ≡ is_reached all d
