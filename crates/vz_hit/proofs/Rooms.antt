-- The room that places keep when they are cut.
use Rattle.std.proofs.Common.{◌≡◌, ℕ, ◌+◌, ap, ◌∙◌, arith}
use Rattle.std.proofs.lemmas.Int.{ints}
use Rattle.vz_geom.specs.declared.Point.{Point}
use Rattle.vz_geom.specs.declared.Size.{Size}
use Rattle.vz_geom.specs.Rectangle.{corner}
use Rattle.vz_frame.specs.declared.frame.RenderPass.{RenderPass}
use Rattle.vz_rules.specs.World.{FrameData}
use Rattle.vz_rules.specs.Walk.{Placement, whole}
use Rattle.vz_placement.specs.Limits.{HasRoom, IsPassInReach, coordinates, room_for}
use Rattle.vz_placement.proofs.Rooms.{room_minus, room_first, place_room}
use Rattle.vz_flat.specs.Parts.{surface_place}
use Rattle.vz_hit.specs.Parts.{group_place, from_origin}

pub named_room : (levels : ℕ) (place inner : Placement) (k : ℕ) (pass : RenderPass) → IsPassInReach pass → inner ≡ group_place pass place
    → HasRoom (room_for levels (k + 1) + coordinates 1) place.shift → HasRoom (room_for levels (k + 1)) inner.shift
named_room levels place inner k pass reach is room =
    place_room (room_for levels (k + 1)) inner (group_place pass place) is
    (room_minus (room_for levels (k + 1) + coordinates 1) (room_for levels (k + 1)) place.shift (corner pass.output) room reach.drawn.first (omega arith))

pub kept_room : (far : ℕ) (place inner : Placement) (i : FrameData) → inner ≡ surface_place i place → HasRoom far place.shift → HasRoom far inner.shift
kept_room far place inner i is room = place_room far inner (surface_place i place) is room

-- the root has room for 65 surfaces
pub root_room : (size : Size) (i : FrameData) (place at_root : Placement) → at_root ≡ whole size → place ≡ surface_place i at_root
    → HasRoom (room_for 65 0) place.shift
root_room size i place at_root e f = place_room (room_for 65 0) place (surface_place i (whole size)) (f ∙ ap (surface_place i) e) room_first

-- the way back is as far
pub back_room : (by : Point) → HasRoom 0 by → HasRoom 0 (from_origin by)
back_room by h =
    record { left = omega (arith, ints); right = omega (arith, ints); top = omega (arith, ints); bottom = omega (arith, ints) }
