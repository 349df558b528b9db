use Rattle.std.proofs.Common.{subst}
use Rattle.vz_outside.specs.Shelved.{Behaves}
use Rattle.vz_desk.specs.Drawings.{IsDrawing}
use Rattle.vz_threads.specs.{Outlets.Shows, Outlets.BeginsFrame, Rounds.ShowsOnce, Rounds.IsCutFrom}
use Rattle.vz_threads.proofs.Ends.{on_ok, on_err}
use Rattle.vz_threads.proofs.Rounding.{may, flies, shows_goes, begun_cut, drawn_none, cut_here}
use Rattle.vz_threads.proofs.rounds.show_drawing.Goals as goal

pub show-shown-requires-clause-may : goal.show-shown-requires-clause-may
show-shown-requires-clause-may g c =
    let s = c.requires.somewhere in
    let was = g.O.Outlet.stands c.args.outlet.now in
    let drew = subst (IsDrawing g.M.Picture.Picture.pictured c.args.d.now c.ask_drawing.new.d) c.in-Drawn.is c.in-Ok.ensures.drawing in
    may s.0 s.1 was was c.args.d.now c.ask_drawing.new.d c.ask_drawing.new.d s.2 (g.M.Picture.Picture.pictured c.in-Drawn.picture) s.3 c.ask_drawing.ensures.same drew.1

pub end_frame-requires-clause-flies : goal.end_frame-requires-clause-flies
end_frame-requires-clause-flies g c = λ κs within.
    let s = c.requires.somewhere in
    let was = g.O.Outlet.stands c.args.outlet.now in
    let drew = subst (IsDrawing g.M.Picture.Picture.pictured c.args.d.now c.ask_drawing.new.d) c.in-Drawn.is c.in-Ok.ensures.drawing in
    flies s.0 s.1 was was c.args.d.now c.ask_drawing.new.d c.ask_drawing.new.d s.2 (g.M.Picture.Picture.pictured c.in-Drawn.picture) s.3 c.ask_drawing.ensures.same drew.1

pub returns-in-Drawn-clause-shown : goal.returns-in-Drawn-clause-shown
returns-in-Drawn-clause-shown g c =
    let was = g.O.Outlet.stands c.args.outlet.now in
    let now = g.O.Outlet.stands c.show-shown.new.self in
    let x = g.M.Picture.Picture.pictured c.in-Drawn.picture in
    let drew = subst (IsDrawing g.M.Picture.Picture.pictured c.args.d.now c.ask_drawing.new.d) c.in-Drawn.is c.in-Ok.ensures.drawing in
    let e = c.show-shown.ensures in
    on_ok c.show-shown.result (Shows x was now) (ShowsOnce was c.args.d.now now c.end_frame.new.d) e.shown
    (λ shows is k start h at.
    shows_goes k start was now c.args.d.now c.ask_drawing.new.d c.end_frame.new.d h x at c.ask_drawing.ensures.same drew.1 e.fixed e.others c.end_frame.ensures.same c.end_frame.ensures.done shows
    (subst (Behaves {T = Unit {0}} was.shelf now.shelf) is e.behaves))

pub returns-in-Drawn-clause-cut : goal.returns-in-Drawn-clause-cut
returns-in-Drawn-clause-cut g c =
    let was = g.O.Outlet.stands c.args.outlet.now in
    let now = g.O.Outlet.stands c.show-shown.new.self in
    let x = g.M.Picture.Picture.pictured c.in-Drawn.picture in
    let drew = subst (IsDrawing g.M.Picture.Picture.pictured c.args.d.now c.ask_drawing.new.d) c.in-Drawn.is c.in-Ok.ensures.drawing in
    let e = c.show-shown.ensures in
    on_err c.show-shown.result (BeginsFrame x was now) (IsCutFrom was c.args.d.now now c.end_frame.new.d c.show-shown.result) e.begun
    (λ begun k start h at.
    begun_cut k start was now c.args.d.now c.ask_drawing.new.d c.end_frame.new.d h x at c.ask_drawing.ensures.same drew.1 e.fixed e.others c.end_frame.ensures.same c.end_frame.ensures.done c.show-shown.result begun e.behaves)

pub returns-in-Other-clause-shown : goal.returns-in-Other-clause-shown
returns-in-Other-clause-shown g c = λ k start h at.
    let was = g.O.Outlet.stands c.args.outlet.now in
    let drew = subst (IsDrawing g.M.Picture.Picture.pictured c.args.d.now c.ask_drawing.new.d) c.in-Other.is c.in-Ok.ensures.drawing in
    drawn_none k start was c.args.d.now c.ask_drawing.new.d h at c.ask_drawing.ensures.same drew.0

pub returns-in-Stopped-clause-cut : goal.returns-in-Stopped-clause-cut
returns-in-Stopped-clause-cut g c = λ k start h at.
    let was = g.O.Outlet.stands c.args.outlet.now in
    let none = subst (IsDrawing g.M.Picture.Picture.pictured c.args.d.now c.ask_drawing.new.d) c.in-Stopped.is c.in-Ok.ensures.drawing in
    (h, cut_here k start was c.args.d.now c.ask_drawing.new.d h at c.ask_drawing.ensures.same none)

pub returns-in_default-clause-cut : goal.returns-in_default-clause-cut
returns-in_default-clause-cut g c = λ k start h at.
    (h, cut_here k start (g.O.Outlet.stands c.args.outlet.now) c.args.d.now c.ask_drawing.new.d h at c.ask_drawing.ensures.same c.in_default.ensures.none)

pub returns-in-Drawn-clause-told : goal.returns-in-Drawn-clause-told
returns-in-Drawn-clause-told g c = λ own. c.end_frame.ensures.told (c.ask_drawing.ensures.told own)
