use Rattle.std.proofs.Common.{sym, subst, arith}
use Rattle.vz_surface_manager.specs.{Live.Live, Drawn_frame.IsShowing, Drawn_frame.Measures, Drawn_frame.Flies}
use Rattle.vz_surface_manager.proofs.Drawn.{lifting, live_drawn}
use Rattle.vz_surface_manager.proofs.live.LiveSurfaces.show.Goals as goal

pub returns-in_err-ready_to_draw-clause-released :
    goal.returns-in_err-ready_to_draw-clause-released
returns-in_err-ready_to_draw-clause-released c =
    let x = c.requires.shows in
    let h = subst (IsShowing x.0 x.1 x.2 x.3) (sym c.self.view_is) x.4 in
    c.ready_to_draw.ensures.released h.drawing.none_released

pub hold_each-requires-clause-lifts : goal.hold_each-requires-clause-lifts
hold_each-requires-clause-lifts c =
    let x = c.requires.shows in
    let h = subst (IsShowing x.0 x.1 x.2 x.3) (sym c.self.view_is) x.4 in
    let flown = subst (λ (v : Live). Flies x.2 x.3 v c.args.flight) (sym c.self.view_is) x.5 in (
      x.0,
      x.1,
      lifting x.0 x.1 x.2 x.3 _ h c.args.flight c.roster-roster.result.now c.ready_to_draw.new.self
          flown c.roster-roster.ensures (c.ready_to_draw.ensures.lent x.1 h.drawing.live.lent)
          (c.ready_to_draw.ensures.released h.drawing.none_released),
    )

pub hold_each-requires-clause-room : goal.hold_each-requires-clause-room
hold_each-requires-clause-room c client l is =
    omega (arith, c.in-Some.ensures, c.in_ok-ready_to_draw.ensures.room client l is)

pub returns-clause-live : goal.returns-clause-live
returns-clause-live c p w root size damage x flies is some =
    let h = subst (IsShowing p w root size) (sym c.self.view_is) x in
    let flown = subst (λ (v : Live). Flies root size v c.args.flight) (sym c.self.view_is) flies in
    let m = subst (λ (v : Live). Measures root size v c.args.measured) (sym c.self.view_is) is in
    let roster = c.roster-roster.result.now in
    let lifts = lifting p w root size _ h c.args.flight roster c.ready_to_draw.new.self
    flown c.roster-roster.ensures (c.ready_to_draw.ensures.lent w h.drawing.live.lent)
    (c.ready_to_draw.ensures.released h.drawing.none_released) in
    live_drawn p w root size _ h c.args.flight roster c.hold_each.new.lending c.args.measured
    c.remember.new.self damage flown c.roster-roster.ensures (c.hold_each.ensures.lent p w lifts) m some
    c.remember.ensures.last c.remember.ensures.told

pub returns-clause-room : goal.returns-clause-room
returns-clause-room c = omega (arith, c.len.ensures, c.in_ok-reserve.ensures.ok)
