use Rattle.std.proofs.Common.{ap, ◌∙◌, arith}
use Rattle.vz_geom.specs.Rectangle.{minus, corner}
use Rattle.vz_placement.specs.Limits.{coordinates}
use Rattle.vz_placement.proofs.Rooms.{room_minus, place_room, point_room}
use Rattle.vz_placement.proofs.placement.Placement.inside.Goals as goal

pub invariant_of-result : goal.invariant_of-result
invariant_of-result c =
    let shift = c.self.inside.shift in
    let first = corner c.args.pass.now.output in
    point_room 0 c.minus.result (minus shift first) (c.minus.ensures ∙ ap (minus shift) c.corner.ensures.value)
    (room_minus (coordinates 1) 0 shift first (place_room (coordinates 1) _ c.args.self.now c.self.view_is c.requires.room) c.requires.pass.drawn.first (omega arith))
