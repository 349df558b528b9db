-- Orders of surfaces, submissions, ranges and frames, and the contents of trees in these orders.
use Rattle.std.specs.Prelude.{◌≡◌, List, find, IfSome}
use Rattle.std.specs.Option.{option_map}
use Rattle.std.specs.BTreeMap.{BTreeMap, get}
use Rattle.std.specs.declared.cmp.Ordering.{Ordering}
use Rattle.vz_ids.specs.declared.Sub.{Sub}
use Rattle.vz_ids.specs.declared.SurfaceId.{SurfaceId}
use Rattle.vz_ids.specs.declared.SurfaceRange.{SurfaceRange}
use Rattle.vz_ids.specs.contracts.SubOrd.TheImpl as sub_ord
use Rattle.vz_ids.specs.contracts.SurfaceIdOrd.TheImpl as surface_ord
use Rattle.vz_ids.specs.contracts.SurfaceRangeOrd.TheImpl as range_ord
use Rattle.vz_ids.specs.Ids.{same_surface, same_range}
use Rattle.vz_geom.specs.Rectangle.{Rectangle}
use Rattle.vz_rules.specs.World.{FrameData, Aggregation}
use Rattle.vz_rules.specs.Damage.{damage_since}
use Rattle.vz_placement.specs.Limits.{IsInReach}
use Rattle.vz_scene.specs.declared.key.FrameKey.{FrameKey}
use Rattle.vz_scene.specs.contracts.key.FrameKeyOrd.TheImpl as frame_ord

-- the order of submissions, by client and ordinal
abbrev pub by_sub : Sub → Sub → Ordering
by_sub = (sub_ord.ghosts).cmp

-- the order of surfaces, by sink and local id
abbrev pub by_surface : SurfaceId → SurfaceId → Ordering
by_surface = (surface_ord.ghosts).cmp

-- the order of ranges, by start and end
abbrev pub by_range : SurfaceRange → SurfaceRange → Ordering
by_range = (range_ord.ghosts).cmp

-- the order of frames, by surface and number
abbrev pub by_frame : FrameKey → FrameKey → Ordering
by_frame = (frame_ord.ghosts).cmp

-- the key of a submitted frame
abbrev pub frame_key : FrameData → FrameKey
frame_key i = record { id = i.id; index = i.index }

-- the map has, for each surface, the number in its first pair
abbrev pub HasNumbers : {A : Type 0} → BTreeMap SurfaceId A → List (SurfaceId × A) → Type 0
HasNumbers {A} m pairs = (id : SurfaceId) → get by_surface m id ≡ option_map (λ (x : SurfaceId × A). x.1) (find (λ (x : SurfaceId × A). same_surface x.0 id) pairs)

-- the map has, for each range, the value in its first pair
abbrev pub HasShown : {A : Type 0} → BTreeMap SurfaceRange A → List (SurfaceRange × A) → Type 0
HasShown {A} m pairs = (r : SurfaceRange) → get by_range m r ≡ option_map (λ (x : SurfaceRange × A). x.1) (find (λ (x : SurfaceRange × A). same_range x.0 r) pairs)

-- the map has, for each frame, the damage on its surface since an aggregation, if these frames
-- were accepted
abbrev pub AreDamages : Aggregation → List FrameData → BTreeMap FrameKey Rectangle → Type 0
AreDamages last accepted m = (i : FrameData) → IfSome (get by_frame m (frame_key i)) (λ (r : Rectangle). (r ≡ damage_since last accepted i) × IsInReach r)
