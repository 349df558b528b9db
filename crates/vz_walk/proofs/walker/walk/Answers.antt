use Rattle.std.proofs.Common.{true, false, [], ◌∷◌, sym, ◌∙◌}
use Rattle.vz_rules.specs.Walk.{Enters, walk, whole}
use Rattle.vz_surfaces.specs.Reading.{seen_frames}
use Rattle.vz_walk.proofs.Meeting.{met_none, met_as, met_some, met_then}
use Rattle.vz_walk.proofs.Rooting.{root_none, root_some}
use Rattle.vz_placement.proofs.Rooms.{place_room, room_first}
use Rattle.vz_walk.proofs.Seeing.{frame_fits}
use Rattle.vz_walk.proofs.walker.walk.Goals as goal

pub enters-requires-clause-fits : goal.enters-requires-clause-fits
enters-requires-clause-fits g c = frame_fits c.args.store.now c.args.root.now c.in-Some.seen c.requires.frames (sym c.frame_on.ensures
    ∙ c.in-Some.is)

pub surface-requires-clause-fits : goal.surface-requires-clause-fits
surface-requires-clause-fits g c = frame_fits c.args.store.now c.args.root.now c.in-Some.seen c.requires.frames (sym c.frame_on.ensures
    ∙ c.in-Some.is)

pub surface-requires-clause-room : goal.surface-requires-clause-room
surface-requires-clause-room g c = place_room 51118080 c.whole-place.result (whole c.args.size) c.whole-place.ensures room_first

pub returns-in-None : goal.returns-in-None
returns-in-None g c =
    met_as g.V.Visitor.has_met g.V.Visitor.has_stopped true _ _ _ _
    (root_none c.args.size c.args.root.now c.args.store.now c.frame_on.result c.frame_on.ensures c.in-None.is)
    (met_none g.V.Visitor.has_met g.V.Visitor.has_stopped c.args.visitor.now)

pub returns-then-not-enters : goal.returns-then-not-enters
returns-then-not-enters g c =
    met_as g.V.Visitor.has_met g.V.Visitor.has_stopped false _ _ _ _
    (root_some c.args.size c.args.root.now c.args.store.now c.frame_on.result c.in-Some.seen c.whole-place.result c.frame_on.ensures
    c.in-Some.is c.whole-place.ensures)
    (met_some g.V.Visitor.has_met g.V.Visitor.has_stopped c.enters.result _ _ (Enters 1 c.in-Some.seen c.whole-place.result ∷ [])
    (walk 65 (seen_frames c.args.store.now) [] c.in-Some.seen c.whole-place.result) c.if-not-enters.true c.enters.ensures)

pub returns-else-not-enters : goal.returns-else-not-enters
returns-else-not-enters g c =
    met_as g.V.Visitor.has_met g.V.Visitor.has_stopped c.surface.result _ _ _ _
    (root_some c.args.size c.args.root.now c.args.store.now c.frame_on.result c.in-Some.seen c.whole-place.result c.frame_on.ensures
    c.in-Some.is c.whole-place.ensures)
    (met_then g.V.Visitor.has_met g.V.Visitor.has_stopped c.enters.result c.surface.result _ _ _
    (Enters 1 c.in-Some.seen c.whole-place.result ∷ []) (walk 65
    (seen_frames c.args.store.now) [] c.in-Some.seen c.whole-place.result) c.if-not-enters.false c.enters.ensures
    c.surface.ensures)
