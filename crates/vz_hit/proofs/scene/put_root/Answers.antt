use Rattle.std.proofs.Common.{[], ap, sym, ◌∙◌}
use Rattle.vz_geom.specs.Rectangle.{is_empty_rect}
use Rattle.vz_flat.proofs.Rooted.{root_whole}
use Rattle.vz_surfaces.specs.Reading.{seen_frames}
use Rattle.vz_hit.specs.Hitting.{entered}
use Rattle.vz_hit.proofs.Adding.{adds_none, adds_as}
use Rattle.vz_hit.proofs.Answering.{nothing_in}
use Rattle.vz_hit.proofs.Rooms.{root_room}
use Rattle.vz_hit.proofs.Entering.{no_scene, scene_is}
use Rattle.vz_hit.proofs.scene.put_root.Goals as goal

pub surface_place-place-requires-clause-whole : goal.surface_place-place-requires-clause-whole
surface_place-place-requires-clause-whole c =
    root_whole c.args.store.now c.args.root.now c.in-Some.seen c.requires.frames (sym c.frame_on.ensures ∙ c.in-Some.is)

pub surface-requires-clause-whole : goal.surface-requires-clause-whole
surface-requires-clause-whole c =
    root_whole c.args.store.now c.args.root.now c.in-Some.seen c.requires.frames (sym c.frame_on.ensures ∙ c.in-Some.is)

pub surface-requires-clause-room : goal.surface-requires-clause-room
surface-requires-clause-room c = root_room c.args.size c.in-Some.seen c.surface_place-place.result c.whole.result c.whole.ensures c.surface_place-place.ensures

pub returns-in-None : goal.returns-in-None
returns-in-None c = adds_none _ _ (no_scene c.args.size c.args.store.now c.args.root.now (sym c.frame_on.ensures ∙ c.in-None.is))

pub returns-then-is_empty : goal.returns-then-is_empty
returns-then-is_empty c =
    let empty = sym (ap is_empty_rect c.window.ensures) ∙ (sym c.is_empty.ensures.value ∙ c.if-is_empty.true) in
    adds_none _ _
    (λ p. sym (scene_is c.args.size c.args.store.now c.args.root.now c.in-Some.seen c.surface_place-place.result c.whole.result (sym c.frame_on.ensures ∙ c.in-Some.is)
    c.whole.ensures c.surface_place-place.ensures p)
    ∙ nothing_in c.surface_place-place.result.window (entered 65 (seen_frames c.args.store.now) [] c.in-Some.seen c.surface_place-place.result.shift) empty p)

pub returns-in_ok-surface-in-Some : goal.returns-in_ok-surface-in-Some
returns-in_ok-surface-in-Some c =
    adds_as _ _ _ _
    (scene_is c.args.size c.args.store.now c.args.root.now c.in-Some.seen c.surface_place-place.result c.whole.result (sym c.frame_on.ensures ∙ c.in-Some.is)
    c.whole.ensures c.surface_place-place.ensures)
    c.in_ok-surface-in-Some.ensures
