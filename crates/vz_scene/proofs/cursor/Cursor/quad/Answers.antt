use Rattle.std.proofs.Common.{◌+◌, [], refl, ap, ◌∙◌, arith}
use Rattle.vz_frame.specs.declared.frame.Material.TheVariants as material
use Rattle.vz_placement.specs.Limits.{coordinates, room_for}
use Rattle.vz_scene.specs.Walking.{named_of, ranges_of}
use Rattle.vz_placement.proofs.Rooms.{room_less}
use Rattle.vz_scene.proofs.Stacking.{quad_more}
use Rattle.vz_scene.proofs.cursor.Cursor.quad.Goals as goal

pub range-requires : goal.range-requires
range-requires c =
    let it = c.args.self.now in
    room_less (room_for it.levels it.pass + coordinates 1) (room_for it.levels 0) c.place_of-place.result.shift c.place_of-place.ensures.room (omega arith)

pub returns-in_ok-group-in-Pass-clause-walked : goal.returns-in_ok-group-in-Pass-clause-walked
returns-in_ok-group-in-Pass-clause-walked c =
    let it = c.args.self.now in
    let active = c.args.active.now in
    quad_more (named_of active it) (ranges_of active it) c.args.pass.now it.place c.args.quad.now (material.Pass c.in-Pass.id) c.args.walked.now c.add_quad.new.self _ c.in-Pass.is c.in_ok-add_quad.ensures.visits
    (c.in_ok-group-in-Pass.ensures active ∙ ap (named_of active it c.in-Pass.id) c.place_of.ensures.value)

pub returns-in_ok-range-in-Surface-clause-walked : goal.returns-in_ok-range-in-Surface-clause-walked
returns-in_ok-range-in-Surface-clause-walked c =
    let it = c.args.self.now in
    let active = c.args.active.now in
    c.in_ok-range-in-Surface.ensures.walked
    ∙ quad_more (named_of active it) (ranges_of active it) c.args.pass.now it.place c.args.quad.now (material.Surface c.in-Surface.range c.in-Surface.background) c.args.walked.now c.add_quad.new.self _ c.in-Surface.is
    c.in_ok-add_quad.ensures.visits (ap (ranges_of active it c.in-Surface.range) c.place_of-place.ensures.value)

pub returns-in-Solid-clause-walked : goal.returns-in-Solid-clause-walked
returns-in-Solid-clause-walked c =
    let it = c.args.self.now in
    let active = c.args.active.now in
    quad_more (named_of active it) (ranges_of active it) c.args.pass.now it.place c.args.quad.now _ c.args.walked.now c.add_quad.new.self [] c.in-Solid.is c.in_ok-add_quad.ensures.visits refl

pub returns-in-Tile-clause-walked : goal.returns-in-Tile-clause-walked
returns-in-Tile-clause-walked c =
    let it = c.args.self.now in
    let active = c.args.active.now in
    quad_more (named_of active it) (ranges_of active it) c.args.pass.now it.place c.args.quad.now _ c.args.walked.now c.add_quad.new.self [] c.in-Tile.is c.in_ok-add_quad.ensures.visits refl
