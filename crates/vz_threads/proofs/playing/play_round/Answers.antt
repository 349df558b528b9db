use Rattle.vz_threads.specs.Rounds.{IsCutFrom}
use Rattle.vz_threads.proofs.{Ends.err_as, Following.cut_opening, Following.begun_at, Following.round_begun}
use Rattle.vz_threads.proofs.playing.play_round.Goals as goal

pub returns-in_default-clause-cut : goal.returns-in_default-clause-cut
returns-in_default-clause-cut g c = λ k start h at.
    cut_opening k start (g.O.Outlet.stands c.args.outlet.now) c.args.d.now c.open_round.new.d h at c.open_round.ensures.same c.in_default.ensures.none

pub end_round-requires-clause-somewhere : goal.end_round-requires-clause-somewhere
end_round-requires-clause-somewhere g c κs within =
    let s = c.requires.somewhere in
    (s.0, s.1, _, begun_at s.0 s.1 (g.O.Outlet.stands c.args.outlet.now) c.args.d.now c.open_round.new.d s.2 s.3 c.open_round.ensures.same c.in-Ok.ensures.made)

pub returns-in_err-end_round-clause-cut : goal.returns-in_err-end_round-clause-cut
returns-in_err-end_round-clause-cut g c =
    let was = g.O.Outlet.stands c.args.outlet.now in
    err_as _ c.from_residual.result (IsCutFrom was c.args.d.now (g.O.Outlet.stands c.end_round.new.outlet) c.end_round.new.d) c.from_residual.ensures.1
    (λ k start h at. c.in_err-end_round.ensures.cut k start _ (begun_at k start was c.args.d.now c.open_round.new.d h at c.open_round.ensures.same c.in-Ok.ensures.made))

pub returns-clause-played : goal.returns-clause-played
returns-clause-played g c = λ k start n p.
    c.in_ok-end_round.ensures.ended k start n
    (round_begun k c.args.paced start (g.O.Outlet.stands c.args.outlet.now) c.args.d.now c.open_round.new.d n p c.open_round.ensures.same c.in-Ok.ensures.made)

pub returns-in_default-clause-told : goal.returns-in_default-clause-told
returns-in_default-clause-told g c = c.open_round.ensures.told

pub returns-in_err-end_round-clause-told : goal.returns-in_err-end_round-clause-told
returns-in_err-end_round-clause-told g c = λ own. c.in_err-end_round.ensures.told (c.open_round.ensures.told own)

pub returns-clause-told : goal.returns-clause-told
returns-clause-told g c = λ own. c.in_ok-end_round.ensures.told (c.open_round.ensures.told own)
