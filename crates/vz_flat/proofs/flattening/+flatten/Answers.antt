use Rattle.std.proofs.Common.{rules, ◌<◌, ◌-◌, length, slice_get, ap, sym, refl, ◌∙◌, arith, ◌++◌, append-nil}
use Rattle.std.proofs.lemmas.Option.{slice_get_read, slice_get_within}
use Rattle.vz_surfaces.specs.{Names.block_at, Reading.seen_frames, declared.held.Held.Held}
use Rattle.vz_walk.specs.Walking.{ids}
use Rattle.vz_flat.specs.Flattening.{Stand, earlier_of, passes_in, ranges_of, group_here, group_at, group_in}
use Rattle.vz_flat.proofs.Named.{tile_drawn, name_drawn, name_before, pass_at, last_pass_at}
use Rattle.vz_flat.proofs.Flat_steps.{group_room, name_room, no_passes, quad_room, surface_room, seen_whole, none_yet, one_more, surface_is}
use Rattle.vz_flat.proofs.flattening.+flatten.Goals as goal

pub Flattener::named-inside-inner-requires-clause-pass : goal.Flattener::named-inside-inner-requires-clause-pass
Flattener::named-inside-inner-requires-clause-pass t c =
    let pass = pass_at c.args.self.now.seen c.passes.result.now c.args.k c.index-passes-k.result c.passes.ensures.whole c.passes.ensures.own c.requires.there
    c.index-passes-k.is in
    pass.whole.reach

pub Flattener::named-group-requires : goal.Flattener::named-group-requires
Flattener::named-group-requires t c =
    let pass = pass_at c.args.self.now.seen c.passes.result.now c.args.k c.index-passes-k.result c.passes.ensures.whole c.passes.ensures.own c.requires.there
    c.index-passes-k.is in
    let there = pass.there in
    let whole = pass.whole in
    let room = group_room c.args.self.now.levels c.args.place.now c.inside-inner.result c.args.k c.index-passes-k.result whole.reach c.inside-inner.ensures
    c.requires.room in
    search rules

pub Flattener::named-returns : goal.Flattener::named-returns
Flattener::named-returns t c =
    let s = c.args.self.now in
    let pass = pass_at c.args.self.now.seen c.passes.result.now c.args.k c.index-passes-k.result c.passes.ensures.whole c.passes.ensures.own c.requires.there
    c.index-passes-k.is in
    c.in_ok-group.ensures
    ∙ ap (λ l. c.args.ops.now.items ++ l)
    (ap (group_here s (earlier_of s c.args.k) c.index-passes-k.result c.args.mode c.args.opacity) c.inside-inner.ensures
    ∙ ap (group_in s c.args.k c.args.mode c.args.opacity c.args.place.now) (sym pass.there))

pub Flattener::pass-loop-n-init : goal.Flattener::pass-loop-n-init
Flattener::pass-loop-n-init t c =
    (omega arith, none_yet c.args.self.now (earlier_of c.args.self.now c.args.k) c.args.pass.now c.args.place.now c.as_slice-quads.result.now c.args.ops.now.items)

pub Flattener::pass-loop-n-preserved : goal.Flattener::pass-loop-n-preserved
Flattener::pass-loop-n-preserved t c =
    let i = c.loop-n.invariant in
    let low = i.0 in (
      omega (arith, low),
      one_more c.args.self.now (earlier_of c.args.self.now c.args.k) c.args.pass.now c.args.place.now c.as_slice-quads.result.now c.loop-n.n c.index-quads-n.result
          c.args.ops.now.items c.loop-n.ops.items c.quad.new.ops.items
          c.loop-n-test.true i.0 c.index-quads-n.is i.1 c.in_ok-quad.ensures,
    )

pub Flattener::pass-quad-requires : goal.Flattener::pass-quad-requires
Flattener::pass-quad-requires t c =
    let s = c.args.self.now in
    let there = slice_get_within s.seen.frame.passes c.args.k c.args.pass.now c.requires.there in
    let most = c.loop-n.invariant.0 in
    let low : c.loop-n.n - 1 < length c.as_slice-quads.result.now = omega (arith, most, c.loop-n-test.true) in
    let at_quad = ap (λ l. slice_get l (c.loop-n.n - 1)) (sym c.as_slice-quads.ensures)
    ∙ slice_get_read c.as_slice-quads.result.now (length c.as_slice-quads.result.now) (c.loop-n.n - 1) c.index-quads-n.result refl low c.index-quads-n.is in
    search rules

pub Flattener::quad-material-requires : goal.Flattener::quad-material-requires
Flattener::quad-material-requires t c =
    let room = quad_room c.args.self.now.levels
    c.args.k c.args.place.now c.place_in-inner.result c.args.pass.now c.args.quad.now c.place_in-inner.ensures c.requires.whole.reach c.requires.room in
    search rules

pub Flattener::material-named-requires : goal.Flattener::material-named-requires
Flattener::material-named-requires t c =
    let s = c.args.self.now in
    let named = c.place_named-in-Pass.ensures c.args.pass.now c.args.quad.now c.requires.own c.requires.at in
    let low = name_before s c.args.k c.in-Some.at c.in-Pass.field-0 c.args.quad.now c.place_named-in-Pass.result c.in-Pass.is named c.in-Some.is in
    let there : c.in-Some.at < length s.seen.frame.passes = omega (arith, low, c.requires.there) in
    let room = name_room s.levels c.args.place.now.shift c.args.k c.in-Some.at low c.requires.room in
    search rules

pub Flattener::material-returns-in_ok-put_tile-in-Tile : goal.Flattener::material-returns-in_ok-put_tile-in-Tile
Flattener::material-returns-in_ok-put_tile-in-Tile t c =
    let s = c.args.self.now in
    let named = c.place_named.ensures c.args.pass.now c.args.quad.now c.requires.own c.requires.at in
    let blocks = c.as_slice-blocks.ensures
    ∙ (ap (λ (h : Held). h.blocks) c.held.ensures ∙ ap (λ (stand : Stand). stand.seen.blocks) c.self.view_is) in
    c.in_ok-put_tile-in-Tile.ensures
    ∙ ap (λ l. c.args.ops.now.items ++ l)
    (tile_drawn s.seen (passes_in s (earlier_of s c.args.k)) (ranges_of s) c.args.quad.now c.args.place.now c.args.k _ _ _ c.place_named.result _ c.in-Tile.is
    named (c.block_at-block.ensures ∙ ap (block_at c.place_named.result) blocks))

pub Flattener::material-returns-in-None : goal.Flattener::material-returns-in-None
Flattener::material-returns-in-None t c =
    let s = c.args.self.now in
    let named = c.place_named-in-Pass.ensures c.args.pass.now c.args.quad.now c.requires.own c.requires.at in
    sym
    (ap (λ l. c.args.ops.now.items ++ l)
    (sym (name_drawn s c.args.k c.in-Pass.field-0 c.args.quad.now c.args.place.now c.place_named-in-Pass.result c.requires.there c.in-Pass.is named)
    ∙ ap (group_at s c.args.quad.now.blend c.args.quad.now.opacity c.args.place.now) c.in-None.is)
    ∙ append-nil c.args.ops.now.items)

pub Flattener::material-returns-in_ok-named-in-Some : goal.Flattener::material-returns-in_ok-named-in-Some
Flattener::material-returns-in_ok-named-in-Some t c =
    let s = c.args.self.now in
    let named = c.place_named-in-Pass.ensures c.args.pass.now c.args.quad.now c.requires.own c.requires.at in
    c.in_ok-named-in-Some.ensures
    ∙ ap (λ l. c.args.ops.now.items ++ l)
    (ap (group_at s c.args.quad.now.blend c.args.quad.now.opacity c.args.place.now) (sym c.in-Some.is)
    ∙ name_drawn s c.args.k c.in-Pass.field-0 c.args.quad.now c.args.place.now c.place_named-in-Pass.result c.requires.there c.in-Pass.is named)

pub Flattener::range-shown-requires : goal.Flattener::range-shown-requires
Flattener::range-shown-requires t c =
    (search rules, (seen_whole c.self.inside.store.now c.args.range.now c.in-Some.seen c.self.invariant.1 (sym c.shown_frame.ensures ∙ c.in-Some.is), c.requires.room))

pub surface-pass-requires : goal.surface-pass-requires
surface-pass-requires t c =
    let root = last_pass_at c.args.seen.now c.passes-passes.result.now c.index-passes-last.result c.requires.whole c.passes-passes.ensures.own c.if-count-eq0.false
    c.index-passes-last.is in
    let there = root.there in
    let whole = root.whole in
    let room = surface_room c.args.levels c.args.place.now.shift c.args.seen.now c.passes-passes.result.now c.requires.whole c.passes-passes.ensures.own c.if-count-eq0.false
    c.if-levels-eq0.false c.requires.room in
    search rules

pub surface-returns-then-count-eq0 : goal.surface-returns-then-count-eq0
surface-returns-then-count-eq0 t c =
    no_passes c.args.levels (seen_frames c.args.store.now) (ids c.args.path.now) c.args.seen.now c.args.place.now c.passes-passes.result.now c.args.ops.now.items
    c.passes-passes.ensures.own c.if-count-eq0.true

pub surface-returns : goal.surface-returns
surface-returns t c =
    surface_is c.args.levels _ _ c.args.seen.now c.id.result c.args.place.now c.passes-passes.result.now (length c.passes-passes.result.now - 1)
    c.index-passes-last.result c.args.ops.now.items c.pass.new.ops.items
    c.if-levels-eq0.false c.id.ensures c.passes-passes.ensures.own (omega (arith, c.if-count-eq0.false)) c.index-passes-last.is c.in_ok-pass.ensures
