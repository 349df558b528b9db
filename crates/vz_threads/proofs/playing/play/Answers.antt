use Rattle.std.proofs.Common.{◌≡◌, ◌∙◌, arith, refl, subst}
use Rattle.vz_threads.specs.{Crews.crew_of, Rounds.HasPlayed}
use Rattle.vz_threads.proofs.{Crewing.crew_same, Crewing.crew_then, Crewing.crew_on, Following.same_self, Following.same_then, Following.cut_stopped, Telling.none_told, Telling.none_all}
use Rattle.vz_threads.proofs.playing.play.Goals as goal

pub loop-init : goal.loop-init
loop-init g c = record { same = same_self c.args.d.now; told = λ own. own; crew = crew_same _ (crew_of c.args.started.now.items); gates = λ all. all; count = refl; played = λ k start p. p }

pub play_round-requires-clause-desk : goal.play_round-requires-clause-desk
play_round-requires-clause-desk g c κs within = c.loop.invariant.same.desk ∙ c.requires.desk

pub play_round-requires-clause-crew : goal.play_round-requires-clause-crew
play_round-requires-clause-crew g c κs within = crew_on _ _ _ _ _ c.requires.crew c.loop.invariant.crew

pub play_round-requires-clause-somewhere : goal.play_round-requires-clause-somewhere
play_round-requires-clause-somewhere g c κs within =
    let b = c.requires.begun in
    let p = c.loop.invariant.played b.0 b.1 b.2 in
    (b.0, b.1, p.history, p.at)

pub stop_early-requires-after_bounds : goal.stop_early-requires-after_bounds
stop_early-requires-after_bounds g c κs within = (same_then _ _ _ c.loop.invariant.same c.play_round.ensures.same).desk ∙ c.requires.desk

pub returns-in-Err-clause-same : goal.returns-in-Err-clause-same
returns-in-Err-clause-same g c = same_then _ _ _ (same_then _ _ _ c.loop.invariant.same c.play_round.ensures.same) c.stop_early.ensures.same

pub returns-in-Err-clause-works : goal.returns-in-Err-clause-works
returns-in-Err-clause-works g c = crew_then _ _ _ _ c.loop.invariant.crew c.play_round.ensures.works

pub returns-in-Err-clause-cut : goal.returns-in-Err-clause-cut
returns-in-Err-clause-cut g c = λ k start p.
    let q = c.loop.invariant.played k start p in
    let cut = c.in-Err.ensures.cut k start q.history q.at in
    (cut.0, cut_stopped k start _ _ _ _ cut.0 _ cut.1 c.stop_early.ensures.same c.stop_early.ensures.none c.stop_early.ensures.stands)

pub loop-preserved : goal.loop-preserved
loop-preserved g c = record {
  same = same_then _ _ _ c.loop.invariant.same c.play_round.ensures.same;
  told = λ own. c.play_round.ensures.told (c.loop.invariant.told own);
  crew = crew_then _ _ _ _ c.loop.invariant.crew c.play_round.ensures.works;
  gates = λ all. c.play_round.ensures.gates (c.loop.invariant.gates all);
  count = c.play_round.ensures.count ∙ c.loop.invariant.count;
  played = λ k start p. c.in_default.ensures.played k start _ (c.loop.invariant.played k start p);
}

pub end_rounds-requires-after_bounds : goal.end_rounds-requires-after_bounds
end_rounds-requires-after_bounds g c κs within = c.loop.invariant.same.desk ∙ c.requires.desk

pub returns-in-Err-end_rounds-clause-cut : goal.returns-in-Err-end_rounds-clause-cut
returns-in-Err-end_rounds-clause-cut g c = λ k start p.
    let q = c.loop.invariant.played k start p in
    let cut = c.in-Err-end_rounds.ensures.cut k start q.history q.at in
    let late = c.stop_early-in-Err-end_rounds.ensures in
    (cut.0, cut_stopped k start _ _ _ _ cut.0 _ cut.1 late.same late.none late.stands)

pub returns-clause-played : goal.returns-clause-played
returns-clause-played g c = λ k start p.
    let all : c.loop.counter ≡ c.args.course.rounds = omega (arith, c.loop-test.false, c.loop.auto.counter-end) in
    c.in_default-end_rounds.ensures.ended k c.args.course.paced start c.args.course.rounds
    (subst (HasPlayed k c.args.course.paced start (g.O.Outlet.stands c.loop.outlet) c.loop.d) all (c.loop.invariant.played k start p))

pub returns-in-Err-clause-told : goal.returns-in-Err-clause-told
returns-in-Err-clause-told g c = λ own. (none_told _ _ _ c.stop_early.ensures.none (c.play_round.ensures.told (c.loop.invariant.told own))).all

pub returns-in-Err-clause-gates : goal.returns-in-Err-clause-gates
returns-in-Err-clause-gates g c = λ all. c.play_round.ensures.gates (c.loop.invariant.gates all)

pub returns-in-Err-end_rounds-clause-told : goal.returns-in-Err-end_rounds-clause-told
returns-in-Err-end_rounds-clause-told g c = λ own. none_all _ _ _ c.stop_early-in-Err-end_rounds.ensures.none (c.end_rounds.ensures.told (c.loop.invariant.told own))

pub returns-clause-told : goal.returns-clause-told
returns-clause-told g c = λ own. c.end_rounds.ensures.told (c.loop.invariant.told own)
