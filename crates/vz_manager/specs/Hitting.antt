-- What is hit on a display, by the regions of what a drawing shows.
use Rattle.std.specs.Prelude.{Option, List}
use Rattle.std.specs.Option.{option_map, option_and_then}
use Rattle.vz_geom.specs.declared.Point.{Point}
use Rattle.vz_ids.specs.declared.SurfaceId.{SurfaceId}
use Rattle.vz_rules.specs.World.{World, Scene}
use Rattle.vz_rules.specs.Hit.{Target}
use Rattle.vz_damage.specs.Accepted.{scene_from}
use Rattle.vz_hit.specs.declared.region.Region.{Region}
use Rattle.vz_hit.specs.Regions.{found}

-- what regions answer at a point; nothing if there are none
abbrev pub found_in : Option (List Region) → Point → Target
found_in regions p = option_and_then (λ (rs : List Region). found rs p) regions

-- what can be seen of a state from a root, if one is given
abbrev pub scene_on : World → Option SurfaceId → Option Scene
scene_on w root = option_map (λ (id : SurfaceId). scene_from id w) root
