use Rattle.std.proofs.Common.{sym, ◌∙◌}
use Rattle.vz_flat.proofs.Rooted.{root_whole, none_drawn, nothing_drawn, root_drawn}
use Rattle.vz_flat.proofs.scene.put_root.Goals as goal

pub surface_place-place-requires-clause-whole : goal.surface_place-place-requires-clause-whole
surface_place-place-requires-clause-whole c =
    root_whole c.args.store.now c.args.root.now c.in-Some.seen c.requires.frames (sym c.frame_on.ensures ∙ c.in-Some.is)

pub surface-requires-clause-whole : goal.surface-requires-clause-whole
surface-requires-clause-whole c =
    root_whole c.args.store.now c.args.root.now c.in-Some.seen c.requires.frames (sym c.frame_on.ensures ∙ c.in-Some.is)

pub returns-then-is_empty : goal.returns-then-is_empty
returns-then-is_empty c =
    nothing_drawn c.args.size c.args.store.now c.args.root.now c.args.ops.now.items c.in-Some.seen c.surface_place-place.result c.whole.result c.window.result
    (sym c.frame_on.ensures ∙ c.in-Some.is)
    c.whole.ensures c.surface_place-place.ensures c.window.ensures (sym c.is_empty.ensures.value ∙ c.if-is_empty.true)

pub returns-in-None : goal.returns-in-None
returns-in-None c = none_drawn c.args.size c.args.store.now c.args.root.now c.args.ops.now.items (sym c.frame_on.ensures ∙ c.in-None.is)

pub returns-in_ok-surface-in-Some : goal.returns-in_ok-surface-in-Some
returns-in_ok-surface-in-Some c =
    root_drawn c.args.size c.args.store.now c.args.root.now c.args.ops.now.items c.surface.new.ops.items c.in-Some.seen c.surface_place-place.result c.whole.result c.window.result
    (sym c.frame_on.ensures ∙ c.in-Some.is)
    c.whole.ensures c.surface_place-place.ensures c.window.ensures
    (sym c.is_empty.ensures.value ∙ c.if-is_empty.false) c.in_ok-surface-in-Some.ensures
