use Rattle.std.proofs.Common.{◌+◌, subst, ap, ◌∙◌, arith}
use Rattle.vz_rules.specs.Walk.{place_in}
use Rattle.vz_placement.specs.Limits.{HasRoom, coordinates, room_for}
use Rattle.vz_scene.specs.Walking.{Cursor}
use Rattle.vz_placement.proofs.Rooms.{room_less, place_room, drawn_room}
use Rattle.vz_scene.proofs.cursor.Cursor.place_of.Goals as goal

pub place_in-requires-clause-room : goal.place_in-requires-clause-room
place_in-requires-clause-room c = room_less (room_for c.self.inside.levels (c.self.inside.pass + 1)) (coordinates 2) c.self.inside.place.shift c.self.invariant.room (omega arith)

pub returns-clause-value : goal.returns-clause-value
returns-clause-value c = c.place_in.ensures ∙ ap (λ (i : Cursor). place_in i.place c.args.pass.now c.args.quad.now) c.self.view_is

pub returns-clause-room : goal.returns-clause-room
returns-clause-room c =
    let here = c.self.inside in
    subst (λ (i : Cursor). HasRoom (room_for i.levels i.pass + coordinates 1) c.place_in.result.shift) c.self.view_is
    (place_room (room_for here.levels here.pass + coordinates 1) c.place_in.result (place_in here.place c.args.pass.now c.args.quad.now) c.place_in.ensures
    (drawn_room here.levels here.pass here.place c.args.quad.now c.self.invariant.room c.requires.quad))
