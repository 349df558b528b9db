-- Places that have room, and what is left after a move.
use Rattle.std.proofs.Common.{◌≡◌, ℕ, ℤ, pos, negsuc, ◌+◌, ◌≤ℤ◌, ◌≤◌, arith, w32}
use mir.Val.{to_z, of_z}
use Rattle.std.proofs.lemmas.Int.{ints, to_z-of_z}
use Rattle.vz_geom.specs.declared.Point.{Point}
use Rattle.vz_geom.specs.Rectangle.{IsOffset, IsNear, plus, minus, corner}
use Rattle.vz_frame.specs.declared.frame.DrawQuad.{DrawQuad}
use Rattle.vz_rules.specs.Walk.{Placement}
use Rattle.vz_placement.specs.Limits.{HasRoom, IsQuadInReach, coordinates, room_for}

-- less room is there too
pub room_less : (far near : ℕ) (p : Point) → HasRoom far p → near ≤ far → HasRoom near p
room_less far near p h e =
    record { left = omega (arith, ints); right = omega (arith, ints); top = omega (arith, ints); bottom = omega (arith, ints) }

-- moved by an offset
pub room_plus : (far near : ℕ) (p by : Point) → HasRoom far p → IsOffset by → near + coordinates 1 ≤ far → HasRoom near (plus p by)
room_plus far near p by h o e =
    record { left = omega (arith, ints); right = omega (arith, ints); top = omega (arith, ints); bottom = omega (arith, ints) }

-- and moved back
pub room_minus : (far near : ℕ) (p by : Point) → HasRoom far p → IsOffset by → near + coordinates 1 ≤ far → HasRoom near (minus p by)
room_minus far near p by h o e =
    record { left = omega (arith, ints); right = omega (arith, ints); top = omega (arith, ints); bottom = omega (arith, ints) }

-- the origin has room for 65 surfaces
pub room_first : HasRoom (room_for 65 0) (record { x = pos 0; y = pos 0 })
room_first = record { left = omega (arith, ints); right = omega (arith, ints); top = omega (arith, ints); bottom = omega (arith, ints) }

-- what has room is not far out
pub near_of_room : (p : Point) → HasRoom 0 p → IsNear p
near_of_room p h =
    record { left = omega (arith, ints); right = omega (arith, ints); top = omega (arith, ints); bottom = omega (arith, ints) }

-- a place or a point that is another has its room
pub place_room : (far : ℕ) (a b : Placement) → a ≡ b → HasRoom far b.shift → HasRoom far a.shift
place_room far a b e h = rw e h

pub point_room : (far : ℕ) (a b : Point) → a ≡ b → HasRoom far b → HasRoom far a
point_room far a b e h = rw e h

-- a number within the limit is read as it is
pub read : (z : ℤ) → pos 0 ≤ℤ z → z ≤ℤ pos 536870912 → to_z w32 (of_z w32 z) ≡ z
read (pos n) low high = to_z-of_z w32 (pos n) (let small : n ≤ 536870912 = omega (arith, ints) in omega arith)
read (negsuc n) low high = absurd (omega (arith, ints))

-- what a quad draws has room for the passes before and all surfaces that are left
pub drawn_room : (levels pass : ℕ) (place : Placement) (quad : DrawQuad) → HasRoom (room_for levels (pass + 1)) place.shift
    → IsQuadInReach quad
    → HasRoom (room_for levels pass + coordinates 1) (plus (plus place.shift quad.offset) (corner quad.area))
drawn_room levels pass place quad h is =
    let moved = room_plus (room_for levels (pass + 1)) (room_for levels pass + coordinates 2) place.shift quad.offset h is.moves
    (omega arith) in
    room_plus (room_for levels pass + coordinates 2) (room_for levels pass + coordinates 1) (plus place.shift quad.offset)
    (corner quad.area) moved is.drawn.first (omega arith)
