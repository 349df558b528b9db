use Rattle.std.proofs.Common.{arith}
use Rattle.vz_geom.specs.Rectangle.{plus}
use Rattle.vz_placement.specs.Limits.{coordinates}
use Rattle.vz_placement.proofs.Rooms.{room_plus, place_room, point_room}
use Rattle.vz_placement.proofs.placement.Placement.seen_part.Goals as goal

pub moved-visible-requires-clause-room : goal.moved-visible-requires-clause-room
moved-visible-requires-clause-room c =
    let shift = c.self.inside.shift in
    let offset = c.args.quad.now.offset in
    point_room 0 c.plus.result (plus shift offset) c.plus.ensures
    (room_plus (coordinates 1) 0 shift offset (place_room (coordinates 1) _ c.args.self.now c.self.view_is c.requires.room)
    c.requires.quad.moves (omega arith))
