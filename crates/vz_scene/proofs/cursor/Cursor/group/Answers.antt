use Rattle.std.proofs.Common.{◌+◌, length, subst, sym, ap, refl, ◌∙◌, arith}
use Rattle.vz_frame.specs.declared.frame.CompositorFrame.{CompositorFrame}
use Rattle.vz_geom.specs.Rectangle.{corner}
use Rattle.vz_placement.specs.Limits.{HasRoom, coordinates, room_for}
use Rattle.vz_scene.specs.Walking.{Cursor, IsBounded}
use Rattle.vz_placement.proofs.{Fitting.pass_at_in_reach, Rooms.room_less}
use Rattle.vz_scene.proofs.{Stacking.cursor_group, Cursors.group_bounded}
use Rattle.vz_scene.proofs.cursor.Cursor.group.Goals as goal

pub inside-requires-clause-pass : goal.inside-requires-clause-pass
inside-requires-clause-pass c =
    let lengths = ap length (c.as_slice-passes.ensures ∙ ap (λ (f : CompositorFrame). f.passes) c.frame.ensures.value) in
    let there = c.self.invariant.there in
    let before = c.in-Some.ensures.before in
    pass_at_in_reach c.frame.result.now c.as_slice-passes.result.now c.in-Some.k c.index-passes-k.result c.frame.ensures.fits c.as_slice-passes.ensures (omega arith) c.index-passes-k.is

pub inside-requires-clause-room : goal.inside-requires-clause-room
inside-requires-clause-room c =
    room_less (room_for c.args.self.now.levels c.args.self.now.pass + coordinates 1) (coordinates 1) c.args.place.now.shift c.requires (omega arith)

pub invariant_of-result : goal.invariant_of-result
invariant_of-result c =
    let lengths = ap length (c.as_slice-passes.ensures ∙ ap (λ (f : CompositorFrame). f.passes) c.frame.ensures.value) in
    let there = c.self.invariant.there in
    let before = c.in-Some.ensures.before in
    let pass = pass_at_in_reach c.frame.result.now c.as_slice-passes.result.now c.in-Some.k c.index-passes-k.result c.frame.ensures.fits c.as_slice-passes.ensures (omega arith) c.index-passes-k.is in
    let place = c.args.place.now in
    let here = c.self.inside in
    let room : HasRoom (room_for here.levels here.pass + coordinates 1) place.shift = subst (λ (i : Cursor). HasRoom (room_for i.levels i.pass + coordinates 1) place.shift) (sym c.self.view_is) c.requires in
    subst (IsBounded here.levels here.submitted.now c.in-Some.k) (sym c.inside.ensures)
    (group_bounded here.levels here.submitted.now here.submitted.now.frame.passes c.in-Some.k here.pass place (corner c.index-passes-k.result.output) refl before there pass.drawn.first room)

pub returns-in_ok-path-in-Some : goal.returns-in_ok-path-in-Some
returns-in_ok-path-in-Some c = λ active.
    let passes = c.as_slice-passes.ensures ∙ ap (λ (f : CompositorFrame). f.passes) c.frame.ensures.value in
    let lengths = ap length passes in
    let there = c.self.invariant.there in
    let before = c.in-Some.ensures.before in
    cursor_group active c.args.self.now _ c.self.view_is c.as_slice-passes.result.now c.self.inside.pass c.in-Some.k c.args.id c.pass_of.result c.index-passes-k.result c.args.place.now c.inside.result _
    passes refl c.pass_of.ensures.found c.in-Some.is (omega arith) c.index-passes-k.is c.inside.ensures (ap (λ v. v.items) c.in_ok-path-in-Some.ensures)
