-- What can be seen of a store, and the walk through it.
use Rattle.std.specs.Prelude.{List}
use Rattle.vz_geom.specs.declared.Size.{Size}
use Rattle.vz_ids.specs.declared.SurfaceId.{SurfaceId}
use Rattle.vz_rules.specs.World.{Scene}
use Rattle.vz_rules.specs.Walk.{Visit, walk_of}
use Rattle.vz_surfaces.specs.Stored.{Stored}
use Rattle.vz_surfaces.specs.Reading.{seen_frames}

-- what can be seen of a store from a root
abbrev pub scene_in : SurfaceId → Stored → Scene
scene_in root st = record { root = root; active = seen_frames st }

-- the visits of a walk through what a store shows from a root, on a display of this size
abbrev pub walked_in : Size → SurfaceId → Stored → List Visit
walked_in size root st = walk_of size (scene_in root st)
