use Rattle.std.proofs.Common.{ap, ◌∙◌, arith}
use Rattle.vz_geom.specs.Rectangle.{plus, corner}
use Rattle.vz_placement.specs.Limits.{coordinates}
use Rattle.vz_placement.proofs.Rooms.{room_plus, place_room, point_room}
use Rattle.vz_placement.proofs.placement.Placement.place_in.Goals as goal

pub plus-requires-clause-room : goal.plus-requires-clause-room
plus-requires-clause-room c =
    let shift = c.self.inside.shift in
    let offset = c.args.quad.now.offset in
    point_room (coordinates 1) c.plus-by.result (plus shift offset) c.plus-by.ensures
    (room_plus (coordinates 2) (coordinates 1) shift offset (place_room (coordinates 2) _ c.args.self.now c.self.view_is c.requires.room) c.requires.quad.moves (omega arith))

pub invariant_of-result : goal.invariant_of-result
invariant_of-result c =
    let shift = c.self.inside.shift in
    let offset = c.args.quad.now.offset in
    let first = corner c.args.quad.now.area in
    let moved = room_plus (coordinates 2) (coordinates 1) shift offset (place_room (coordinates 2) _ c.args.self.now c.self.view_is c.requires.room) c.requires.quad.moves (omega arith) in
    point_room 0 c.plus.result (plus (plus shift offset) first) (c.plus.ensures ∙ ap (λ p. plus p c.corner.result) c.plus-by.ensures ∙ ap (plus (plus shift offset)) c.corner.ensures.value)
    (room_plus (coordinates 1) 0 (plus shift offset) first moved c.requires.quad.drawn.first (omega arith))
