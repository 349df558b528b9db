-- Sets of surfaces.
use Rattle.std.specs.Prelude.{◌≡◌, List}
use Rattle.std.specs.BTreeSet.{BTreeSet, contains}
use Rattle.vz_ids.specs.declared.SurfaceId.{SurfaceId}
use Rattle.vz_rules.specs.Reach.{has_id}
use Rattle.vz_scene.specs.Order.{by_surface}

-- the set has exactly the surfaces in the list
abbrev pub AreIn : BTreeSet SurfaceId → List SurfaceId → Type 0
AreIn set list = (id : SurfaceId) → contains by_surface set id ≡ has_id list id
