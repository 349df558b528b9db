use Rattle.std.proofs.Common.{◌≡◌, ◌+◌, ◌-◌, ◌<◌, ◌≤◌, true, false, Some, [], ◌∷◌, ◌++◌, length, slice_get, take, drop, refl, subst, sym, ap}
use Rattle.std.proofs.Common.{◌∙◌, arith, rules}
use Rattle.std.specs.List.{flat_map, list_any}
use Rattle.std.proofs.lemmas.List.{take_all}
use Rattle.std.proofs.lemmas.Option.{slice_get_read}
use Rattle.vz_frame.specs.declared.frame.CompositorFrame.{CompositorFrame}
use Rattle.vz_frame.specs.declared.frame.Material.TheVariants as material
use Rattle.vz_geom.specs.Rectangle.{minus, corner}
use Rattle.vz_ids.specs.declared.SurfaceId.{SurfaceId}
use Rattle.vz_ids.specs.Ids.{same_surface}
use Rattle.vz_rules.specs.Scene.{shown_frame}
use Rattle.vz_rules.specs.Paint.{on_path}
use Rattle.vz_rules.specs.Walk.{Quad, Shows, Enters, range_walked, walk, place_in}
use Rattle.vz_surfaces.specs.Reading.{seen_frames}
use Rattle.vz_surfaces.specs.Names.{place_named}
use Rattle.vz_surfaces.specs.declared.held.Held.{Held}
use Rattle.vz_placement.specs.Limits.{HasRoom, FitsFile, coordinates, room_for}
use Rattle.vz_walk.specs.Walking.{Stand, ids, ranges_of, named_of, quad_of, pass_in, group_at, shown_at}
use Rattle.vz_placement.proofs.Fitting.{pass_at_in_reach, quad_at_in_reach, few_passes}
use Rattle.vz_placement.proofs.Rooms.{room_less, place_room, drawn_room, room_minus}
use Rattle.vz_walk.proofs.Meeting.{met_none, met_as, met_some, met_then, met_last}
use Rattle.vz_walk.proofs.Walk_steps.{quads_next, quads_all, pass_is, group_is, name_is, name_before, inner_of, quad_is, behind, range_is}
use Rattle.vz_walk.proofs.Walk_steps.{again_is, enters_is}
use Rattle.vz_walk.proofs.Passing.{no_levels, no_passes, root_pass_is}
use Rattle.vz_walk.proofs.Seeing.{shown_fits}
use Rattle.vz_walk.proofs.walker.+walk.Goals as goal

-- A surface

pub surface-returns-then-levels-eq0 : goal.surface-returns-then-levels-eq0
surface-returns-then-levels-eq0 g _ c =
    met_as g.V.Visitor.has_met g.V.Visitor.has_stopped true _ _ _ _ (no_levels c.args.levels (seen_frames c.args.store.now)
    (ids c.args.path.now) c.args.seen.now c.args.place.now c.if-levels-eq0.true)
    (met_none g.V.Visitor.has_met g.V.Visitor.has_stopped c.args.visitor.now)

pub surface-returns-then-count-eq0 : goal.surface-returns-then-count-eq0
surface-returns-then-count-eq0 g _ c =
    let passes : c.as_slice-count.result.now ≡ c.args.seen.now.frame.passes = c.as_slice-count.ensures
    ∙ (ap (λ (f : CompositorFrame). f.passes) c.frame.ensures ∙ ap (λ (h : Held). h.frame.passes) c.held.ensures) in
    met_as g.V.Visitor.has_met g.V.Visitor.has_stopped true _ _ _ _
    (no_passes c.args.levels (seen_frames c.args.store.now) (ids c.args.path.now) c.args.seen.now c.args.place.now (sym
    (ap length passes) ∙ c.if-count-eq0.true))
    (met_none g.V.Visitor.has_met g.V.Visitor.has_stopped c.args.visitor.now)

pub surface-pass-requires : goal.surface-pass-requires
surface-pass-requires g _ c =
    let own = c.as_slice-count.ensures ∙ ap (λ (f : CompositorFrame). f.passes) c.frame.ensures in
    let some : 0 < length c.as_slice-count.result.now = omega (arith, c.if-count-eq0.false) in
    let there : length c.as_slice-count.result.now - 1 < length c.held.result.now.frame.passes = subst
    (λ l. length c.as_slice-count.result.now - 1 < length l) own (omega arith) in
    let few : length c.as_slice-count.result.now ≤ 16 = subst (λ l. length l ≤ 16) (sym (own
    ∙ ap (λ (h : Held). h.frame.passes) c.held.ensures)) (few_passes c.args.seen.now.frame c.requires.fits) in
    let room : HasRoom (room_for (c.args.levels - 1) (length c.as_slice-count.result.now - 1 + 1)) c.args.place.now.shift =
    room_less (room_for c.args.levels 0) (room_for (c.args.levels - 1)
    (length c.as_slice-count.result.now - 1 + 1)) c.args.place.now.shift c.requires.room (omega
    (arith, some, few, c.if-levels-eq0.false)) in
    search rules

pub surface-returns : goal.surface-returns
surface-returns g _ c =
    let passes : c.as_slice-count.result.now ≡ c.args.seen.now.frame.passes = c.as_slice-count.ensures
    ∙ (ap (λ (f : CompositorFrame). f.passes) c.frame.ensures ∙ ap (λ (h : Held). h.frame.passes) c.held.ensures) in
    met_as g.V.Visitor.has_met g.V.Visitor.has_stopped c.pass.result _ _ _ _
    (ap (λ (x : SurfaceId). pass_in (range_walked (walk (c.args.levels - 1) (seen_frames c.args.store.now))
    (seen_frames c.args.store.now) (x ∷ ids c.args.path.now)) c.held.result.now.frame.passes
    (length c.as_slice-count.result.now - 1) c.args.place.now (slice_get c.held.result.now.frame.passes
    (length c.as_slice-count.result.now - 1))) c.id.ensures
    ∙ root_pass_is c.args.levels (seen_frames c.args.store.now)
    (ids c.args.path.now) c.args.seen.now c.args.place.now c.held.result.now.frame.passes (length c.as_slice-count.result.now - 1)
    (ap (λ (h : Held). h.frame.passes) c.held.ensures) (omega (arith, c.if-levels-eq0.false))
    (let some = c.if-count-eq0.false in let same = ap length (c.as_slice-count.ensures ∙ ap (λ (f : CompositorFrame). f.passes) c.frame.ensures) in
    omega arith))
    c.pass.ensures

-- A pass

pub Walker::pass-loop-n-init : goal.Walker::pass-loop-n-init
Walker::pass-loop-n-init g _ c = met_none g.V.Visitor.has_met g.V.Visitor.has_stopped c.args.visitor.now

pub Walker::pass-quad-requires : goal.Walker::pass-quad-requires
Walker::pass-quad-requires g _ c =
    let low : c.loop-n.n < length c.as_slice-quads.result.now = omega (arith, c.loop-n-test.true) in
    let own = c.as_slice.ensures ∙ ap (λ (f : CompositorFrame). f.passes) c.frame.ensures in
    let within : c.args.k < length c.as_slice.result.now = subst (λ l. c.args.k < length l) (sym (own
    ∙ ap (λ (i : Stand). i.frame.passes) c.self.view_is)) c.requires.there in
    let pass = pass_at_in_reach c.self.inside.frame.now c.as_slice.result.now c.args.k c.index-as_slice-k.result c.self.invariant.fits
    own within c.index-as_slice-k.is in
    let quad = quad_at_in_reach c.self.inside.frame.now c.as_slice.result.now c.args.k c.loop-n.n c.index-as_slice-k.result
    c.as_slice-quads.result.now c.index-quads-n.result c.self.invariant.fits own within
    c.index-as_slice-k.is c.as_slice-quads.ensures low c.index-quads-n.is in
    let at_pass = ap (λ l. slice_get l c.args.k) (sym own)
    ∙ slice_get_read c.as_slice.result.now (length c.as_slice.result.now) c.args.k c.index-as_slice-k.result refl within c.index-as_slice-k.is in
    let at_quad = ap (λ l. slice_get l c.loop-n.n) (sym c.as_slice-quads.ensures)
    ∙ slice_get_read c.as_slice-quads.result.now (length c.as_slice-quads.result.now) c.loop-n.n c.index-quads-n.result refl low
    c.index-quads-n.is in
    let stands = ap (λ (i : Stand). slice_get i.frame.passes c.args.k) (sym c.self.view_is) ∙ at_pass in
    search rules

pub Walker::pass-returns-then-not-quad : goal.Walker::pass-returns-then-not-quad
Walker::pass-returns-then-not-quad g _ c =
    let it = c.args.self.now in
    let place = c.args.place.now in
    let f = quad_of it c.args.k c.index-as_slice-k.result place in
    let quads = c.as_slice-quads.result.now in
    let n = c.loop-n.n in
    let low : c.loop-n.n < length c.as_slice-quads.result.now = omega (arith, c.loop-n-test.true) in
    let own = c.as_slice.ensures ∙ (ap (λ (f : CompositorFrame). f.passes) c.frame.ensures
    ∙ ap (λ (i : Stand). i.frame.passes) c.self.view_is) in
    let within : c.args.k < length c.as_slice.result.now = subst (λ l. c.args.k < length l) (sym own) c.requires.there in
    let whole = pass_is it c.as_slice.result.now c.args.k c.index-as_slice-k.result c.as_slice-quads.result.now place own within
    c.index-as_slice-k.is c.as_slice-quads.ensures in
    met_as g.V.Visitor.has_met g.V.Visitor.has_stopped false _ _ _ _
    (quads_all f quads n c.index-quads-n.result low c.index-quads-n.is ∙ whole)
    (met_some g.V.Visitor.has_met g.V.Visitor.has_stopped c.quad.result _ _ (flat_map f (take n quads) ++ f c.index-quads-n.result)
    (flat_map f (drop (n + 1) quads)) c.if-not-quad.true
    (met_then g.V.Visitor.has_met g.V.Visitor.has_stopped true c.quad.result _ _ _ (flat_map f (take n quads))
    (f c.index-quads-n.result) refl c.loop-n.invariant c.quad.ensures))

pub Walker::pass-loop-n-preserved : goal.Walker::pass-loop-n-preserved
Walker::pass-loop-n-preserved g _ c =
    let f = quad_of c.args.self.now c.args.k c.index-as_slice-k.result c.args.place.now in
    let quads = c.as_slice-quads.result.now in
    let n = c.loop-n.n in
    let low : c.loop-n.n < length c.as_slice-quads.result.now = omega (arith, c.loop-n-test.true) in
    met_as g.V.Visitor.has_met g.V.Visitor.has_stopped true _ _ _ _
    (quads_next f quads n c.index-quads-n.result low c.index-quads-n.is)
    (met_last g.V.Visitor.has_met g.V.Visitor.has_stopped c.quad.result _ _ (flat_map f
    (take n quads) ++ f c.index-quads-n.result) c.if-not-quad.false
    (met_then g.V.Visitor.has_met g.V.Visitor.has_stopped true c.quad.result _ _ _ (flat_map f (take n quads))
    (f c.index-quads-n.result) refl c.loop-n.invariant c.quad.ensures))

pub Walker::pass-returns : goal.Walker::pass-returns
Walker::pass-returns g _ c =
    let it = c.args.self.now in
    let place = c.args.place.now in
    let f = quad_of it c.args.k c.index-as_slice-k.result place in
    let quads = c.as_slice-quads.result.now in
    let own = c.as_slice.ensures ∙ (ap (λ (f : CompositorFrame). f.passes) c.frame.ensures
    ∙ ap (λ (i : Stand). i.frame.passes) c.self.view_is) in
    let within : c.args.k < length c.as_slice.result.now = subst (λ l. c.args.k < length l) (sym own) c.requires.there in
    let whole = pass_is it c.as_slice.result.now c.args.k c.index-as_slice-k.result c.as_slice-quads.result.now place own within
    c.index-as_slice-k.is c.as_slice-quads.ensures in
    met_as g.V.Visitor.has_met g.V.Visitor.has_stopped true _ _ _ _ (ap (flat_map f) (take_all c.loop-n.n quads (omega
    (arith, c.loop-n-test.false))) ∙ whole) c.loop-n.invariant

-- A quad

pub Walker::quad-returns-then-not-quad : goal.Walker::quad-returns-then-not-quad
Walker::quad-returns-then-not-quad g _ c =
    let it = c.args.self.now in
    let inner = inner_of (named_of it c.args.k) (ranges_of it) c.args.pass.now c.args.place.now c.args.quad.now c.args.quad.now.material in
    met_as g.V.Visitor.has_met g.V.Visitor.has_stopped false _ _ _ _
    (quad_is it c.args.k c.args.pass.now c.args.place.now c.args.quad.now c.args.quad.now.material inner refl refl)
    (met_some g.V.Visitor.has_met g.V.Visitor.has_stopped c.quad.result _ _ (Quad ∷ []) inner c.if-not-quad.true c.quad.ensures)

pub Walker::quad-group-requires : goal.Walker::quad-group-requires
Walker::quad-group-requires g _ c =
    let it = c.args.self.now in
    let at_pass = ap (λ (i : Stand). slice_get i.frame.passes c.args.k) c.self.view_is ∙ c.requires.own in
    let named = c.place_named.ensures c.args.pass.now c.args.quad.now at_pass c.requires.at
    ∙ ap (λ (i : Stand). place_named i.frame c.args.k c.args.quad.now) c.self.view_is in
    let low = name_before it c.args.k c.in-Some.at c.in-Pass.field-0 c.args.quad.now c.place_named.result c.in-Pass.is named c.in-Some.is in
    let there : c.in-Some.at < length it.frame.passes = omega (arith, low, c.requires.there) in
    let place = place_room (room_for it.levels c.args.k + coordinates 1) c.place_in.result
    (place_in c.args.place.now c.args.pass.now c.args.quad.now) c.place_in.ensures
    (drawn_room it.levels c.args.k c.args.place.now c.args.quad.now c.requires.room c.requires.quad) in
    let room = room_less (room_for it.levels c.args.k + coordinates 1) (room_for it.levels (c.in-Some.at + 1) + coordinates 1)
    c.place_in.result.shift place (omega (arith, low)) in
    search rules

pub Walker::quad-range-requires : goal.Walker::quad-range-requires
Walker::quad-range-requires g _ c =
    let it = c.args.self.now in
    let place = place_room (room_for it.levels c.args.k + coordinates 1) c.place_in-in-Surface.result
    (place_in c.args.place.now c.args.pass.now c.args.quad.now) c.place_in-in-Surface.ensures
    (drawn_room it.levels c.args.k c.args.place.now c.args.quad.now c.requires.room c.requires.quad) in
    let room = room_less (room_for it.levels c.args.k + coordinates 1) (room_for it.levels 0) c.place_in-in-Surface.result.shift place
    (omega arith) in
    search rules

pub Walker::quad-returns-in-None : goal.Walker::quad-returns-in-None
Walker::quad-returns-in-None g _ c =
    let it = c.args.self.now in
    let at_pass = ap (λ (i : Stand). slice_get i.frame.passes c.args.k) c.self.view_is ∙ c.requires.own in
    let named = c.place_named.ensures c.args.pass.now c.args.quad.now at_pass c.requires.at
    ∙ ap (λ (i : Stand). place_named i.frame c.args.k c.args.quad.now) c.self.view_is in
    let place = place_in c.args.place.now c.args.pass.now c.args.quad.now in
    met_as g.V.Visitor.has_met g.V.Visitor.has_stopped true _ _ _ _
    (quad_is it c.args.k c.args.pass.now c.args.place.now c.args.quad.now (material.Pass c.in-Pass.field-0) [] c.in-Pass.is
    (ap (group_at (ranges_of it) it.frame.passes place) (sym c.in-None.is)
    ∙ name_is it c.args.k c.in-Pass.field-0 c.args.quad.now c.place_named.result place c.requires.there c.in-Pass.is named))
    (met_last g.V.Visitor.has_met g.V.Visitor.has_stopped c.quad.result _ _ (Quad ∷ []) c.if-not-quad.false c.quad.ensures)

pub Walker::quad-returns-in-Some : goal.Walker::quad-returns-in-Some
Walker::quad-returns-in-Some g _ c =
    let it = c.args.self.now in
    let at_pass = ap (λ (i : Stand). slice_get i.frame.passes c.args.k) c.self.view_is ∙ c.requires.own in
    let named = c.place_named.ensures c.args.pass.now c.args.quad.now at_pass c.requires.at
    ∙ ap (λ (i : Stand). place_named i.frame c.args.k c.args.quad.now) c.self.view_is in
    let inner = group_at (ranges_of it) it.frame.passes c.place_in.result (Some c.in-Some.at) in
    met_as g.V.Visitor.has_met g.V.Visitor.has_stopped c.group.result _ _ _ _
    (quad_is it c.args.k c.args.pass.now c.args.place.now c.args.quad.now (material.Pass c.in-Pass.field-0) inner c.in-Pass.is
    (ap (group_at (ranges_of it) it.frame.passes c.place_in.result) (sym c.in-Some.is)
    ∙ (name_is it c.args.k c.in-Pass.field-0 c.args.quad.now c.place_named.result c.place_in.result c.requires.there c.in-Pass.is named
    ∙ ap (named_of it c.args.k c.in-Pass.field-0) c.place_in.ensures)))
    (met_then g.V.Visitor.has_met g.V.Visitor.has_stopped c.quad.result c.group.result _ _ _
    (Quad ∷ []) inner c.if-not-quad.false c.quad.ensures c.group.ensures)

pub Walker::quad-returns-in-Surface : goal.Walker::quad-returns-in-Surface
Walker::quad-returns-in-Surface g _ c =
    let it = c.args.self.now in
    let inner = ranges_of it c.in-Surface.range c.place_in-in-Surface.result in
    met_as g.V.Visitor.has_met g.V.Visitor.has_stopped c.range.result _ _ _ _
    (quad_is it c.args.k c.args.pass.now c.args.place.now c.args.quad.now
    (material.Surface c.in-Surface.range c.in-Surface.background) inner c.in-Surface.is
    (ap (ranges_of it c.in-Surface.range) c.place_in-in-Surface.ensures))
    (met_then g.V.Visitor.has_met g.V.Visitor.has_stopped c.quad.result c.range.result _ _ _
    (Quad ∷ []) inner c.if-not-quad.false c.quad.ensures c.range.ensures)

pub Walker::quad-returns-in-Solid : goal.Walker::quad-returns-in-Solid
Walker::quad-returns-in-Solid g _ c =
    let it = c.args.self.now in
    met_as g.V.Visitor.has_met g.V.Visitor.has_stopped true _ _ _ _
    (quad_is it c.args.k c.args.pass.now c.args.place.now c.args.quad.now _ [] c.in-Solid.is refl)
    (met_last g.V.Visitor.has_met g.V.Visitor.has_stopped c.quad.result _ _ (Quad ∷ []) c.if-not-quad.false c.quad.ensures)

pub Walker::quad-returns-in-Tile : goal.Walker::quad-returns-in-Tile
Walker::quad-returns-in-Tile g _ c =
    let it = c.args.self.now in
    met_as g.V.Visitor.has_met g.V.Visitor.has_stopped true _ _ _ _
    (quad_is it c.args.k c.args.pass.now c.args.place.now c.args.quad.now _ [] c.in-Tile.is refl)
    (met_last g.V.Visitor.has_met g.V.Visitor.has_stopped c.quad.result _ _ (Quad ∷ []) c.if-not-quad.false c.quad.ensures)

-- A group

pub Walker::group-inside-requires-clause-pass : goal.Walker::group-inside-requires-clause-pass
Walker::group-inside-requires-clause-pass g _ c =
    let own = c.as_slice-passes.ensures ∙ ap (λ (f : CompositorFrame). f.passes) c.frame.ensures in
    let within : c.args.k < length c.as_slice-passes.result.now = subst (λ l. c.args.k < length l) (sym (own
    ∙ ap (λ (i : Stand). i.frame.passes) c.self.view_is)) c.requires.there in
    pass_at_in_reach c.self.inside.frame.now c.as_slice-passes.result.now c.args.k c.index-passes-k.result
    c.self.invariant.fits own within c.index-passes-k.is

pub Walker::group-pass-requires : goal.Walker::group-pass-requires
Walker::group-pass-requires g _ c =
    let own = c.as_slice-passes.ensures ∙ ap (λ (f : CompositorFrame). f.passes) c.frame.ensures in
    let within : c.args.k < length c.as_slice-passes.result.now = subst (λ l. c.args.k < length l) (sym (own
    ∙ ap (λ (i : Stand). i.frame.passes) c.self.view_is)) c.requires.there in
    let pass = pass_at_in_reach c.self.inside.frame.now c.as_slice-passes.result.now c.args.k c.index-passes-k.result
    c.self.invariant.fits own within c.index-passes-k.is in
    let it = c.args.self.now in
    let place = c.args.place.now in
    let room : HasRoom (room_for it.levels (c.args.k + 1)) c.inside.result.shift =
    place_room (room_for it.levels (c.args.k + 1)) c.inside.result (record place {
      shift = minus place.shift
          (corner c.index-passes-k.result.output);
    }) c.inside.ensures
    (room_minus (room_for it.levels (c.args.k + 1) + coordinates 1) (room_for it.levels (c.args.k + 1)) place.shift
    (corner c.index-passes-k.result.output) c.requires.room pass.drawn.first (omega arith)) in
    search rules

pub Walker::group-returns : goal.Walker::group-returns
Walker::group-returns g _ c =
    let own = c.as_slice-passes.ensures ∙ (ap (λ (f : CompositorFrame). f.passes) c.frame.ensures
    ∙ ap (λ (i : Stand). i.frame.passes) c.self.view_is) in
    let within : c.args.k < length c.as_slice-passes.result.now = subst (λ l. c.args.k < length l) (sym own) c.requires.there in
    met_as g.V.Visitor.has_met g.V.Visitor.has_stopped c.pass.result _ _ _ _
    (group_is c.args.self.now c.as_slice-passes.result.now c.args.k c.index-passes-k.result c.args.place.now c.inside.result own within
    c.index-passes-k.is c.inside.ensures)
    c.pass.ensures

-- A range

pub Walker::range-returns-then-not-shows : goal.Walker::range-returns-then-not-shows
Walker::range-returns-then-not-shows g _ c =
    let it = c.args.self.now in
    let shown = c.shown_frame-shown.result in
    let found : shown ≡ shown_frame it.active c.args.range.now = c.shown_frame-shown.ensures
    ∙ ap (λ (i : Stand). shown_frame i.active c.args.range.now) c.self.view_is in
    let whole = range_is it c.args.range.now c.args.place.now shown c.window.result c.window.ensures found in
    met_as g.V.Visitor.has_met g.V.Visitor.has_stopped false _ _ _ _ whole
    (met_some g.V.Visitor.has_met g.V.Visitor.has_stopped c.shows.result _ _ (Shows c.args.range.now shown c.window.result ∷ [])
    (behind it c.args.place.now shown) c.if-not-shows.true c.shows.ensures)

pub Walker::range-shown-requires : goal.Walker::range-shown-requires
Walker::range-shown-requires g _ c =
    let fits : FitsFile c.in-Some.seen.frame = shown_fits c.self.inside.store.now c.args.range.now c.in-Some.seen c.self.invariant.frames
    (sym c.shown_frame-shown.ensures ∙ c.in-Some.is) in
    search rules

pub Walker::range-returns-in-None : goal.Walker::range-returns-in-None
Walker::range-returns-in-None g _ c =
    let it = c.args.self.now in
    let shown = c.shown_frame-shown.result in
    let found : shown ≡ shown_frame it.active c.args.range.now = c.shown_frame-shown.ensures
    ∙ ap (λ (i : Stand). shown_frame i.active c.args.range.now) c.self.view_is in
    let whole = range_is it c.args.range.now c.args.place.now shown c.window.result c.window.ensures found in
    met_as g.V.Visitor.has_met g.V.Visitor.has_stopped true _ _ _ _ (ap (λ o.
    (Shows c.args.range.now shown c.window.result ∷ []) ++ behind it c.args.place.now o) (sym c.in-None.is) ∙ whole)
    (met_last g.V.Visitor.has_met g.V.Visitor.has_stopped c.shows.result _ _
    (Shows c.args.range.now shown c.window.result ∷ []) c.if-not-shows.false c.shows.ensures)

pub Walker::range-returns-in-Some : goal.Walker::range-returns-in-Some
Walker::range-returns-in-Some g _ c =
    let it = c.args.self.now in
    let shown = c.shown_frame-shown.result in
    let found : shown ≡ shown_frame it.active c.args.range.now = c.shown_frame-shown.ensures
    ∙ ap (λ (i : Stand). shown_frame i.active c.args.range.now) c.self.view_is in
    let whole = range_is it c.args.range.now c.args.place.now shown c.window.result c.window.ensures found in
    met_as g.V.Visitor.has_met g.V.Visitor.has_stopped c.shown.result _ _ _ _ (ap (λ o.
    (Shows c.args.range.now shown c.window.result ∷ []) ++ behind it c.args.place.now o) (sym c.in-Some.is) ∙ whole)
    (met_then g.V.Visitor.has_met g.V.Visitor.has_stopped c.shows.result c.shown.result _ _ _
    (Shows c.args.range.now shown c.window.result ∷ []) (shown_at it c.in-Some.seen c.args.place.now) c.if-not-shows.false
    c.shows.ensures c.shown.ensures)

-- What it shows

pub Walker::shown-returns-then-has : goal.Walker::shown-returns-then-has
Walker::shown-returns-then-has g _ c =
    let it = c.args.self.now in
    let i = c.args.seen.now in
    let path : c.has.result ≡ on_path it.path i = c.has.ensures
    ∙ (ap (λ (x : SurfaceId). list_any (same_surface x) (ids c.self.inside.path.now)) c.id.ensures
    ∙ ap (λ (s : Stand). on_path s.path i) c.self.view_is) in
    met_as g.V.Visitor.has_met g.V.Visitor.has_stopped true _ _ _ _ (again_is it i c.args.place.now (sym path
    ∙ c.if-has.true)) (met_none g.V.Visitor.has_met g.V.Visitor.has_stopped c.args.visitor.now)

pub Walker::shown-returns-then-not-enters : goal.Walker::shown-returns-then-not-enters
Walker::shown-returns-then-not-enters g _ c =
    let it = c.args.self.now in
    let i = c.args.seen.now in
    let path : c.has.result ≡ on_path it.path i = c.has.ensures
    ∙ (ap (λ (x : SurfaceId). list_any (same_surface x) (ids c.self.inside.path.now)) c.id.ensures
    ∙ ap (λ (s : Stand). on_path s.path i) c.self.view_is) in
    let deep : 65 - c.self.inside.levels + 1 ≡ length it.path + 1 = ap (λ (s : Stand). 65 - s.levels + 1) c.self.view_is
    ∙ (let all = subst (λ (s : Stand). length s.path + s.levels ≡ 65) c.self.view_is c.self.invariant.deep in omega arith) in
    met_as g.V.Visitor.has_met g.V.Visitor.has_stopped false _ _ _ _ (enters_is it i c.args.place.now _ (sym path ∙ c.if-has.false) deep)
    (met_some g.V.Visitor.has_met g.V.Visitor.has_stopped c.enters.result _ _ (Enters
    (65 - c.self.inside.levels + 1) i c.args.place.now ∷ [])
    (walk it.levels it.active it.path i c.args.place.now) c.if-not-enters.true c.enters.ensures)

pub Walker::shown-returns : goal.Walker::shown-returns
Walker::shown-returns g _ c =
    let it = c.args.self.now in
    let i = c.args.seen.now in
    let path : c.has.result ≡ on_path it.path i = c.has.ensures
    ∙ (ap (λ (x : SurfaceId). list_any (same_surface x) (ids c.self.inside.path.now)) c.id.ensures
    ∙ ap (λ (s : Stand). on_path s.path i) c.self.view_is) in
    let deep : 65 - c.self.inside.levels + 1 ≡ length it.path + 1 = ap (λ (s : Stand). 65 - s.levels + 1) c.self.view_is
    ∙ (let all = subst (λ (s : Stand). length s.path + s.levels ≡ 65) c.self.view_is c.self.invariant.deep in omega arith) in
    let rest = walk it.levels it.active it.path i c.args.place.now in
    let walked = met_as g.V.Visitor.has_met g.V.Visitor.has_stopped c.surface.result _ _ _ _ (ap (λ
    (s : Stand). walk s.levels s.active s.path i c.args.place.now) c.self.view_is) c.surface.ensures in
    met_as g.V.Visitor.has_met g.V.Visitor.has_stopped c.surface.result _ _ _ _ (enters_is it i c.args.place.now _ (sym path
    ∙ c.if-has.false) deep)
    (met_then g.V.Visitor.has_met g.V.Visitor.has_stopped c.enters.result c.surface.result _ _ _ (Enters
    (65 - c.self.inside.levels + 1) i c.args.place.now ∷ []) rest c.if-not-enters.false c.enters.ensures walked)
