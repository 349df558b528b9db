-- Regions of a display, from front to back, and what they answer at a point.
use Rattle.std.specs.Prelude.{◌≡◌, false, Option, None, Some, List, [], ◌∷◌, length, if◌then◌else◌}
use Rattle.std.specs.Option.{option_map}
use Rattle.std.specs.List.{All}
use Rattle.vz_geom.specs.declared.Point.{Point}
use Rattle.vz_geom.specs.Rectangle.{Rectangle, has, plus}
use Rattle.vz_ids.specs.declared.SurfaceId.{SurfaceId}
use Rattle.vz_rules.specs.Hit.{Target}
use Rattle.vz_placement.specs.Limits.{HasRoom}
use Rattle.vz_hit.specs.declared.region.Region.{Region}
use Rattle.vz_hit.specs.declared.region.Hit.{Hit}
use Rattle.vz_hit.specs.declared.region.Owner.{Owner}

-- what the first region that has a point answers: its surface, with the point moved by its shift
unfoldable pub found : List Region → Point → Target
found [] p = None
found (r ∷ behind) p = if has r.area p then Some (r.id, plus p r.shift) else found behind p

-- no region has the point
abbrev pub HasNone : List Region → Point → Type 0
HasNone regions p = All (λ (r : Region). has r.area p ≡ false) regions

-- a surface with a point, as it is handed out
abbrev pub hit_of : Target → Option Hit
hit_of t = option_map (λ (a : SurfaceId × Point). record { id = a.0; local = a.1 }) t

-- areas, each with its owner, as regions
unfoldable pub regions_of : List Rectangle → List Owner → List Region
regions_of [] owners = []
regions_of (area ∷ areas) [] = []
regions_of (area ∷ areas) (owner ∷ owners) = record { area = area; id = owner.id; shift = owner.shift } ∷ regions_of areas owners

-- each area has its owner, and each owner's shift is within 52,000,000 of the origin
pub record AreOwned (areas : List Rectangle) (owners : List Owner) : Type 0 where
  pub each : length areas ≡ length owners
  pub near : All (λ (o : Owner). HasRoom 0 o.shift) owners
