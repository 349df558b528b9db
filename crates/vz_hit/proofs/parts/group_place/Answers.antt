use Rattle.std.proofs.Common.{ap, ◌∙◌, arith}
use Rattle.vz_geom.specs.Rectangle.{minus, corner}
use Rattle.vz_rules.specs.Walk.{Placement}
use Rattle.vz_placement.specs.Limits.{coordinates}
use Rattle.vz_placement.proofs.Rooms.{room_minus, point_room}
use Rattle.vz_hit.proofs.parts.group_place.Goals as goal

pub moved-output-requires-clause-room : goal.moved-output-requires-clause-room
moved-output-requires-clause-room c =
    point_room 0 c.shift.result (minus c.args.place.now.shift (corner c.args.pass.now.output))
    (c.shift.ensures.value ∙ ap (λ (i : Placement). i.shift) c.inside-inner.ensures)
    (room_minus (coordinates 1) 0 c.args.place.now.shift (corner c.args.pass.now.output) c.requires.room c.requires.pass.drawn.first (omega arith))
