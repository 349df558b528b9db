use Rattle.vz_threads.proofs.Crewing.{crew_then, crew_on}
use Rattle.vz_threads.proofs.beside.fn.play_beside.scope.Goals as goal

pub start_all-requires-clause-crew : goal.start_all-requires-clause-crew
start_all-requires-clause-crew g c κs within = c.requires.play.crew

pub play-played-requires-clause-desk : goal.play-played-requires-clause-desk
play-played-requires-clause-desk g c κs within = c.requires.play.desk

pub play-played-requires-clause-crew : goal.play-played-requires-clause-crew
play-played-requires-clause-crew g c κs within = crew_on _ _ _ _ _ c.requires.play.crew c.start_all.ensures.works

pub play-played-requires-clause-begun : goal.play-played-requires-clause-begun
play-played-requires-clause-begun g c κs within = c.requires.play.begun

pub returns : goal.returns
returns g c = record {
  played = record {
    works = crew_then _ _ _ _ (crew_then _ _ _ _ c.start_all.ensures.works c.play-played.ensures.works)
        (c.finish_all.ensures.works _ (c.play-played.ensures.gates c.start_all.ensures.gates));
    same = c.play-played.ensures.same;
    gated = c.play-played.ensures.told;
    whole = c.play-played.ensures.played;
    cut = c.play-played.ensures.cut;
  };
}
