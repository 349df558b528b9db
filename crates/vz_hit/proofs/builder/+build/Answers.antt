use Rattle.std.proofs.Common.{rules, ◌≡◌, ◌<◌, ◌-◌, ◌+◌, Some, None, List, length, slice_get, ap, sym, refl, ◌∙◌, subst, arith}
use Rattle.std.specs.List.{list_any}
use Rattle.std.proofs.lemmas.Option.{slice_get_read, slice_get_within}
use Rattle.vz_geom.specs.Rectangle.{is_empty_rect}
use Rattle.vz_ids.specs.declared.SurfaceId.{SurfaceId}
use Rattle.vz_ids.specs.Ids.{same_surface}
use Rattle.vz_frame.specs.declared.frame.DrawQuad.{DrawQuad}
use Rattle.vz_rules.specs.Scene.{shown_frame}
use Rattle.vz_rules.specs.Paint.{on_path}
use Rattle.vz_surfaces.specs.Reading.{seen_frames}
use Rattle.vz_placement.specs.Limits.{HasRoom, coordinates, room_for}
use Rattle.vz_walk.specs.Walking.{ids}
use Rattle.vz_placement.proofs.Rooms.{room_less}
use Rattle.vz_flat.proofs.Named.{pass_at, last_pass_at}
use Rattle.vz_flat.proofs.Flat_steps.{name_room, quad_room, surface_room, seen_whole}
use Rattle.vz_hit.specs.Hitting.{Stand, in_window, quads_of, material_of, entered}
use Rattle.vz_hit.proofs.Adding.{adds_none, adds_then, adds_as, leaves_all, leaves_less, leaves_none}
use Rattle.vz_hit.proofs.Rooms.{named_room, kept_room}
use Rattle.vz_hit.proofs.Naming.{name_none, name_some, name_before}
use Rattle.vz_hit.proofs.Answering.{quads_from, quads_end, quad_is, nothing_in, solid_is, tile_is, embedding_is, group_is, range_none, range_again, range_some, shown_is, shown_empty}
use Rattle.vz_hit.proofs.Guttering.{starts_at_corner}
use Rattle.vz_hit.proofs.Entering.{no_levels, no_passes, root_is}
use Rattle.vz_hit.proofs.builder.+build.Goals as goal

-- A surface

pub surface-returns-then-levels-eq0 : goal.surface-returns-then-levels-eq0
surface-returns-then-levels-eq0 t c =
    adds_none _ _
    (no_levels c.args.levels (seen_frames c.args.store.now) (ids c.args.path.now) c.args.seen.now c.args.place.now.window c.args.place.now.shift c.if-levels-eq0.true)

pub surface-returns-then-count-eq0 : goal.surface-returns-then-count-eq0
surface-returns-then-count-eq0 t c =
    adds_none _ _
    (no_passes c.args.levels (seen_frames c.args.store.now) (ids c.args.path.now) c.args.seen.now c.args.place.now.window c.args.place.now.shift c.passes-passes.result.now
    c.passes-passes.ensures.own c.if-count-eq0.true)

pub surface-shift_back-requires : goal.surface-shift_back-requires
surface-shift_back-requires t c = room_less (room_for c.args.levels 0) 0 c.args.place.now.shift c.requires.room (omega arith)

pub surface-pass-requires : goal.surface-pass-requires
surface-pass-requires t c =
    let root = last_pass_at c.args.seen.now c.passes-passes.result.now c.index-passes-last.result c.requires.whole c.passes-passes.ensures.own c.if-count-eq0.false
    c.index-passes-last.is in
    let there = root.there in
    let whole = root.whole in
    let room = surface_room c.args.levels c.args.place.now.shift c.args.seen.now c.passes-passes.result.now c.requires.whole c.passes-passes.ensures.own c.if-count-eq0.false
    c.if-levels-eq0.false c.requires.room in
    search rules

pub surface-returns : goal.surface-returns
surface-returns t c =
    adds_as _ _ _ _
    (root_is c.args.levels (seen_frames c.args.store.now) (ids c.args.path.now) c.args.seen.now c.id.result c.args.place.now.window c.args.place.now.shift c.shift_back.result
    c.passes-passes.result.now (length c.passes-passes.result.now - 1) c.index-passes-last.result
    c.if-levels-eq0.false c.id.ensures c.shift_back.ensures.value c.passes-passes.ensures.own (omega (arith, c.if-count-eq0.false)) c.index-passes-last.is)
    c.in_ok-pass.ensures

-- A pass

pub Builder::pass-loop-n-init : goal.Builder::pass-loop-n-init
Builder::pass-loop-n-init t c =
    leaves_all _ _ _
    (λ p. ap (λ (l : List DrawQuad). in_window c.args.place.now.window (quads_of c.args.self.now c.args.k c.args.pass.now l c.args.place.now.shift) p) (sym c.as_slice-quads.ensures))

pub Builder::pass-loop-n-preserved : goal.Builder::pass-loop-n-preserved
Builder::pass-loop-n-preserved t c =
    let low : c.loop-n.n < length c.as_slice-quads.result.now = omega (arith, c.loop-n-test.true) in
    leaves_less _ _ _ _ _ _ _
    (quads_from c.args.self.now c.args.k c.args.pass.now c.args.place.now.window c.args.place.now.shift c.as_slice-quads.result.now c.loop-n.n c.index-quads-n.result low
    c.index-quads-n.is)
    c.loop-n.invariant c.in_ok-quad.ensures

pub Builder::pass-quad-requires : goal.Builder::pass-quad-requires
Builder::pass-quad-requires t c =
    let s = c.args.self.now in
    let there = slice_get_within s.seen.frame.passes c.args.k c.args.pass.now c.requires.there in
    let low : c.loop-n.n < length c.as_slice-quads.result.now = omega (arith, c.loop-n-test.true) in
    let at_quad = ap (λ l. slice_get l c.loop-n.n) (sym c.as_slice-quads.ensures)
    ∙ slice_get_read c.as_slice-quads.result.now (length c.as_slice-quads.result.now) c.loop-n.n c.index-quads-n.result refl low c.index-quads-n.is in
    let named = c.place_named-leads_to.ensures c.args.pass.now c.index-quads-n.result c.requires.there at_quad in
    search rules

pub Builder::pass-returns : goal.Builder::pass-returns
Builder::pass-returns t c =
    leaves_none _ _ _ _
    (quads_end c.args.self.now c.args.k c.args.pass.now c.args.place.now.window c.args.place.now.shift c.as_slice-quads.result.now c.loop-n.n (omega (arith, c.loop-n-test.false)))
    c.loop-n.invariant

-- A quad

pub Builder::quad-returns-then-is_empty : goal.Builder::quad-returns-then-is_empty
Builder::quad-returns-then-is_empty t c =
    let s = c.args.self.now in
    let empty = sym (ap is_empty_rect c.window.ensures) ∙ (sym c.is_empty.ensures.value ∙ c.if-is_empty.true) in
    adds_none _ _
    (λ p. sym (quad_is s c.args.k c.args.pass.now c.args.quad.now c.args.place.now c.place_in-inner.result c.place_in-inner.ensures p)
    ∙ nothing_in c.place_in-inner.result.window (material_of s c.args.k c.args.quad.now.material c.place_in-inner.result.shift) empty p)

pub Builder::quad-material-requires : goal.Builder::quad-material-requires
Builder::quad-material-requires t c =
    let room = quad_room c.args.self.now.levels
    c.args.k c.args.place.now c.place_in-inner.result c.args.pass.now c.args.quad.now c.place_in-inner.ensures c.requires.whole.reach c.requires.room in
    let corner = starts_at_corner c.args.pass.now c.args.quad.now c.args.self.now.seen c.args.place.now c.place_in-inner.result c.place_in-inner.ensures c.requires.whole in
    search rules

pub Builder::quad-returns : goal.Builder::quad-returns
Builder::quad-returns t c =
    adds_as _ _ _ _
    (quad_is c.args.self.now c.args.k c.args.pass.now c.args.quad.now c.args.place.now c.place_in-inner.result c.place_in-inner.ensures)
    c.in_ok-material.ensures

-- What it draws

pub Builder::material-returns-in_ok-put-in-Solid : goal.Builder::material-returns-in_ok-put-in-Solid
Builder::material-returns-in_ok-put-in-Solid t c =
    adds_as _ _ _ _ (solid_is c.args.self.now c.args.k c.args.quad.now.material _ c.args.place.now _ c.in-Solid.is c.window.ensures) c.in_ok-put-in-Solid.ensures

pub Builder::material-returns-in_ok-put-in-Tile : goal.Builder::material-returns-in_ok-put-in-Tile
Builder::material-returns-in_ok-put-in-Tile t c =
    adds_as _ _ _ _ (tile_is c.args.self.now c.args.k c.args.quad.now.material _ _ _ c.args.place.now _ c.in-Tile.is c.window-in-Tile.ensures) c.in_ok-put-in-Tile.ensures

pub Builder::material-range-requires : goal.Builder::material-range-requires
Builder::material-range-requires t c =
    let s = c.args.self.now in
    let room = room_less (room_for s.levels c.args.k + coordinates 1) (room_for s.levels 0) c.args.place.now.shift c.requires.room (omega arith) in
    search rules

pub Builder::material-returns-in_ok-range-in-Surface : goal.Builder::material-returns-in_ok-range-in-Surface
Builder::material-returns-in_ok-range-in-Surface t c =
    adds_as _ _ _ _ (embedding_is c.args.self.now c.args.k c.args.quad.now.material _ _ c.args.place.now c.in-Surface.is) c.in_ok-range-in-Surface.ensures

pub Builder::material-named-requires : goal.Builder::material-named-requires
Builder::material-named-requires t c =
    let s = c.args.self.now in
    let low = name_before s c.args.k c.in-Some.at c.in-Pass.field-0 c.args.quad.now c.args.leads_to c.in-Pass.is c.requires.named c.in-Some.is in
    let there : c.in-Some.at < length s.seen.frame.passes = omega (arith, low, c.requires.there) in
    let room = name_room s.levels c.args.place.now.shift c.args.k c.in-Some.at low c.requires.room in
    search rules

pub Builder::material-returns-in-None : goal.Builder::material-returns-in-None
Builder::material-returns-in-None t c =
    adds_none _ _
    (name_none c.args.self.now c.args.k c.in-Pass.field-0 c.args.quad.now c.args.leads_to c.args.place.now.window c.args.place.now.shift c.requires.there c.in-Pass.is
    c.requires.named c.in-None.is)

pub Builder::material-returns-in_ok-named-in-Some : goal.Builder::material-returns-in_ok-named-in-Some
Builder::material-returns-in_ok-named-in-Some t c =
    adds_as _ _ _ _
    (name_some c.args.self.now c.args.k c.in-Some.at c.in-Pass.field-0 c.args.quad.now c.args.leads_to c.args.place.now.window c.args.place.now.shift c.requires.there c.in-Pass.is
    c.requires.named c.in-Some.is)
    c.in_ok-named-in-Some.ensures

-- A pass that a quad names

pub Builder::named-group_place-inner-requires-clause-pass : goal.Builder::named-group_place-inner-requires-clause-pass
Builder::named-group_place-inner-requires-clause-pass t c =
    let pass = pass_at c.args.self.now.seen c.passes.result.now c.args.k c.index-passes-k.result c.passes.ensures.whole c.passes.ensures.own c.requires.there
    c.index-passes-k.is in
    pass.whole.reach

pub Builder::named-returns-then-is_empty : goal.Builder::named-returns-then-is_empty
Builder::named-returns-then-is_empty t c =
    let s = c.args.self.now in
    let pass = pass_at c.args.self.now.seen c.passes.result.now c.args.k c.index-passes-k.result c.passes.ensures.whole c.passes.ensures.own c.requires.there
    c.index-passes-k.is in
    let empty = sym (ap is_empty_rect c.window.ensures) ∙ (sym c.is_empty.ensures.value ∙ c.if-is_empty.true) in
    adds_none _ _
    (λ p. sym (group_is s c.args.k c.index-passes-k.result c.args.place.now c.group_place-inner.result c.group_place-inner.ensures pass.there p)
    ∙ nothing_in c.group_place-inner.result.window (quads_of s c.args.k c.index-passes-k.result c.index-passes-k.result.quads c.group_place-inner.result.shift) empty p)

pub Builder::named-pass-requires : goal.Builder::named-pass-requires
Builder::named-pass-requires t c =
    let pass = pass_at c.args.self.now.seen c.passes.result.now c.args.k c.index-passes-k.result c.passes.ensures.whole c.passes.ensures.own c.requires.there
    c.index-passes-k.is in
    let there = pass.there in
    let whole = pass.whole in
    let room = named_room c.args.self.now.levels c.args.place.now c.group_place-inner.result c.args.k c.index-passes-k.result whole.reach c.group_place-inner.ensures
    c.requires.room in
    search rules

pub Builder::named-returns : goal.Builder::named-returns
Builder::named-returns t c =
    let s = c.args.self.now in
    let pass = pass_at c.args.self.now.seen c.passes.result.now c.args.k c.index-passes-k.result c.passes.ensures.whole c.passes.ensures.own c.requires.there
    c.index-passes-k.is in
    adds_as _ _ _ _
    (group_is s c.args.k c.index-passes-k.result c.args.place.now c.group_place-inner.result c.group_place-inner.ensures pass.there)
    c.in_ok-pass.ensures

-- A range

pub Builder::range-returns-in_ok-put-in-None : goal.Builder::range-returns-in_ok-put-in-None
Builder::range-returns-in_ok-put-in-None t c =
    let s = c.args.self.now in
    let shown : shown_frame s.active c.args.range.now ≡ None = sym (c.shown_frame.ensures ∙ ap (λ (i : Stand). shown_frame i.active c.args.range.now) c.self.view_is) ∙ c.in-None.is in
    adds_as _ _ _ _ (range_none s c.args.range.now c.args.place.now _ c.window.ensures shown) c.in_ok-put-in-None.ensures

pub Builder::range-shown-requires : goal.Builder::range-shown-requires
Builder::range-shown-requires t c =
    let whole = seen_whole c.self.inside.store.now c.args.range.now c.in-Some.seen c.self.invariant.frames (sym c.shown_frame.ensures ∙ c.in-Some.is) in
    search rules

pub Builder::range-returns-then-has : goal.Builder::range-returns-then-has
Builder::range-returns-then-has t c =
    let s = c.args.self.now in
    let i = c.in-Some.seen in
    let shown : shown_frame s.active c.args.range.now ≡ Some i = sym (c.shown_frame.ensures ∙ ap (λ (x : Stand). shown_frame x.active c.args.range.now) c.self.view_is) ∙ c.in-Some.is in
    let path : c.has.result ≡ on_path s.path i = c.has.ensures
    ∙ (ap (λ (x : SurfaceId). list_any (same_surface x) (ids c.self.inside.path.now)) c.id.ensures ∙ ap (λ (x : Stand). on_path x.path i) c.self.view_is) in
    adds_none _ _ (range_again s c.args.range.now c.args.place.now.window c.args.place.now.shift i shown (sym path ∙ c.if-has.true))

pub Builder::range-returns-in_ok-shown-in-Some : goal.Builder::range-returns-in_ok-shown-in-Some
Builder::range-returns-in_ok-shown-in-Some t c =
    let s = c.args.self.now in
    let i = c.in-Some.seen in
    let shown : shown_frame s.active c.args.range.now ≡ Some i = sym (c.shown_frame.ensures ∙ ap (λ (x : Stand). shown_frame x.active c.args.range.now) c.self.view_is) ∙ c.in-Some.is in
    let path : c.has.result ≡ on_path s.path i = c.has.ensures
    ∙ (ap (λ (x : SurfaceId). list_any (same_surface x) (ids c.self.inside.path.now)) c.id.ensures ∙ ap (λ (x : Stand). on_path x.path i) c.self.view_is) in
    adds_as _ _ _ _ (range_some s c.args.range.now c.args.place.now.window c.args.place.now.shift i shown (sym path ∙ c.if-has.false)) c.in_ok-shown-in-Some.ensures

-- A surface that it shows

pub Builder::shown-gutter-requires : goal.Builder::shown-gutter-requires
Builder::shown-gutter-requires t c =
    let room = room_less (room_for c.args.self.now.levels 0) 0 c.args.place.now.shift c.requires.room (omega arith) in
    search rules

pub Builder::shown-surface_place-inner-requires : goal.Builder::shown-surface_place-inner-requires
Builder::shown-surface_place-inner-requires t c =
    let room = room_less (room_for c.args.self.now.levels 0) 0 c.args.place.now.shift c.requires.room (omega arith) in
    search rules

pub Builder::shown-returns-then-is_empty : goal.Builder::shown-returns-then-is_empty
Builder::shown-returns-then-is_empty t c =
    let empty = sym (ap is_empty_rect c.window.ensures) ∙ (sym c.is_empty.ensures.value ∙ c.if-is_empty.true) in
    adds_as _ _ _ _ (shown_empty c.args.self.now c.args.range.now c.args.seen.now c.args.place.now c.surface_place-inner.result c.surface_place-inner.ensures empty)
    c.in_ok-gutter.ensures

pub Builder::shown-surface-requires : goal.Builder::shown-surface-requires
Builder::shown-surface-requires t c =
    let room = kept_room (room_for c.args.self.now.levels 0) c.args.place.now c.surface_place-inner.result c.args.seen.now c.surface_place-inner.ensures c.requires.room in
    let here = subst (λ (x : Stand). HasRoom (room_for x.levels 0) c.surface_place-inner.result.shift) (sym c.self.view_is) room in
    search rules

pub Builder::shown-returns : goal.Builder::shown-returns
Builder::shown-returns t c =
    let inner = c.surface_place-inner.result in
    adds_as _ _ _ _ (shown_is c.args.self.now c.args.range.now c.args.seen.now c.args.place.now inner c.surface_place-inner.ensures)
    (adds_then _ _ _ _ _ c.in_ok-gutter.ensures
    (adds_as _ _ _ _ (λ p. ap (λ (x : Stand). in_window inner.window (entered x.levels x.active x.path c.args.seen.now inner.shift) p) c.self.view_is) c.in_ok-surface.ensures))
