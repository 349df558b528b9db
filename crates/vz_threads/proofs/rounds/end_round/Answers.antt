use Rattle.std.proofs.Common.{◌+◌, subst, sym}
use Rattle.vz_threads.specs.{Outlets.Outlook, Rounds.HasPlayed, Rounds.IsCutFrom}
use Rattle.vz_threads.proofs.{Ends.err_as, Rounding.cut_here, Rounding.paused_by, Rounding.round_ends, Rounding.cut_behind, Telling.none_told}
use Rattle.vz_threads.proofs.rounds.end_round.Goals as goal

pub returns-in_default-clause-cut : goal.returns-in_default-clause-cut
returns-in_default-clause-cut g c = λ k start h at.
    (h, cut_here k start (g.O.Outlet.stands c.args.outlet.now) c.args.d.now c.pause.new.d h at c.pause.ensures.same c.pause.ensures.none)

pub show_drawing-requires-clause-somewhere : goal.show_drawing-requires-clause-somewhere
show_drawing-requires-clause-somewhere g c κs within =
    let s = c.requires.somewhere in
    let q = paused_by s.0 s.1 (g.O.Outlet.stands c.args.outlet.now) c.args.d.now c.pause.new.d s.2 s.3 c.pause.ensures.same c.pause.ensures.none c.args.paced c.in-Ok.ensures.calm c.pause.ensures.stays in
    (s.0, s.1, q.history, q.at)

pub returns-in_err-show_drawing-clause-cut : goal.returns-in_err-show_drawing-clause-cut
returns-in_err-show_drawing-clause-cut g c =
    let was = g.O.Outlet.stands c.args.outlet.now in
    let now = g.O.Outlet.stands c.show_drawing.new.outlet in
    err_as _ c.from_residual.result (IsCutFrom was c.args.d.now now c.show_drawing.new.d) c.from_residual.ensures.1
    (λ k start h at.
    cut_behind k start was now c.pause.new.d c.show_drawing.new.d h c.args.paced _
    (paused_by k start was c.args.d.now c.pause.new.d h at c.pause.ensures.same c.pause.ensures.none c.args.paced c.in-Ok.ensures.calm c.pause.ensures.stays)
    (c.in_err-show_drawing.ensures.cut k start))

pub returns-clause-ended : goal.returns-clause-ended
returns-clause-ended g c = λ k start n b.
    let was = g.O.Outlet.stands c.args.outlet.now in
    subst (λ (s : Outlook). HasPlayed k c.args.paced start s c.show_drawing.new.d (n + 1)) (sym c.pass_on.ensures)
    (round_ends k c.args.paced start was (g.O.Outlet.stands c.show_drawing.new.outlet) c.args.d.now c.pause.new.d c.show_drawing.new.d n b
    (paused_by k start was c.args.d.now c.pause.new.d b.history b.at c.pause.ensures.same c.pause.ensures.none c.args.paced c.in-Ok.ensures.calm c.pause.ensures.stays)
    (c.in_ok-show_drawing.ensures.shown k start))

pub returns-in_default-clause-told : goal.returns-in_default-clause-told
returns-in_default-clause-told g c = none_told _ _ _ c.pause.ensures.none

pub returns-in_err-show_drawing-clause-told : goal.returns-in_err-show_drawing-clause-told
returns-in_err-show_drawing-clause-told g c = λ own. c.in_err-show_drawing.ensures.told (none_told _ _ _ c.pause.ensures.none own)

pub returns-clause-told : goal.returns-clause-told
returns-clause-told g c = λ own. c.in_ok-show_drawing.ensures.told (none_told _ _ _ c.pause.ensures.none own)
