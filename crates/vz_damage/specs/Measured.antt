-- What a drawing claims, by the reported damages and by what ranges showed.
use Rattle.std.specs.Prelude.{◌≡◌, Bool, false, ◌&&◌, is_some, Option, Some, None, List, [], ◌∷◌, if◌then◌else◌}
use Rattle.std.specs.List.{flat_map, filter_map}
use Rattle.vz_geom.specs.declared.Size.{Size}
use Rattle.vz_geom.specs.Rectangle.{Rectangle, is_empty_rect, sized, meet, moved, bound}
use Rattle.vz_ids.specs.declared.SurfaceId.{SurfaceId}
use Rattle.vz_ids.specs.declared.SurfaceRange.{SurfaceRange}
use Rattle.vz_ids.specs.Ids.{same_surface}
use Rattle.vz_frame.specs.Frame.{frame_size}
use Rattle.vz_rules.specs.Closure.{adding}
use Rattle.vz_rules.specs.World.{FrameData, Aggregation}
use Rattle.vz_rules.specs.Walk.{Placement, Visit, Quad, Shows, Enters}
use Rattle.vz_rules.specs.Damage.{shown_range, of_same_range, is_switched, aggregation_of}
use Rattle.vz_surfaces.specs.Stored.{Stored}
use Rattle.vz_walk.specs.Scenes.{scene_in, walked_in}
use Rattle.vz_damage.specs.Told.{Told, Damaged, told_on, damage_in}

-- the root and the ranges of an aggregation, without its indices, which are kept with each surface
abbrev pub without_indices : Aggregation → Aggregation
without_indices a = record { root = a.root; indices = []; ranges = a.ranges }

-- the part of a damage on the frame's surface that is seen at a place
abbrev pub seen_damage : Rectangle → FrameData → Placement → Rectangle
seen_damage damage i place = meet (meet place.window (moved (sized (frame_size i.frame)) place.shift)) (moved damage place.shift)

-- what a visit claims, by the reported damages and the remembered aggregation
unfoldable pub told_claims_of : List (SurfaceId × Told) → Aggregation → Visit → List Rectangle
told_claims_of told a Quad = []
told_claims_of told a (Shows range now seen) = if is_switched a range now then seen ∷ [] else []
told_claims_of told a (Enters depth i place) = seen_damage (damage_in (told_on told i.id)) i place ∷ []

-- the claims of a walk from this root; the only claim is the whole display if there was no
-- aggregation, or if its root was another
unfoldable pub told_claims : Size → Option Aggregation → List (SurfaceId × Told) → SurfaceId → List Visit → List Rectangle
told_claims size None told root walked = sized size ∷ []
told_claims size (Some a) told root walked = if same_surface a.root root then flat_map (told_claims_of told a) walked else sized size ∷ []

-- the smallest rectangle round these claims
unfoldable pub told_damage : Size → Option Aggregation → List (SurfaceId × Told) → SurfaceId → List Visit → Rectangle
told_damage size a told root walked = bound (told_claims size a told root walked)

-- the damage, if something changed; nothing changed if there was an aggregation and the damage is
-- empty
abbrev pub what_changed : Option Aggregation → Rectangle → Option Rectangle
what_changed a damage = if is_some a && is_empty_rect damage then None else Some damage

-- there was an aggregation, and this was its root
abbrev pub has_root : Option Aggregation → SurfaceId → Bool
has_root None root = false
has_root (Some a) root = same_surface a.root root

-- ranges, each once, with the surface that each showed
abbrev pub Shown : Type 0
Shown = List (SurfaceRange × Option SurfaceId)

-- what a walk has measured so far: the rectangle round its claims, and what its ranges showed
pub record IsMeasured (told : List (SurfaceId × Told)) (last : Shown) (damage : Rectangle) (ranges : Shown)
    (visits : List Visit) : Type 0 where
  pub claims : (a : Aggregation) → a.ranges ≡ last → damage ≡ bound (flat_map (told_claims_of told a) visits)
  pub ranges_met : ranges ≡ adding of_same_range [] (filter_map shown_range visits)

-- what a walk measured: what changed, and what to remember once it is the last aggregation; the
-- indices are kept with each surface
pub record Measurement : Type 0 where
  pub changed : Option Rectangle
  pub kept : Aggregation

-- this is what a walk over a store from a root measures, for a display of this size and these
-- damages: what changed is the rectangle round the claims, if anything changed, and what to
-- remember is the aggregation
pub record IsMeasureOf (d : Damaged) (st : Stored) (root : SurfaceId) (size : Size) (m : Measurement) : Type 0 where
  pub changed : m.changed ≡ what_changed d.last (told_damage size d.last d.surfaces root (walked_in size root st))
  pub kept : m.kept ≡ without_indices (aggregation_of (scene_in root st) (walked_in size root st))
