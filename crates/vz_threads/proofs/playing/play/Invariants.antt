use Rattle.std.proofs.Common.{◌≡◌, vec_len}
use Rattle.vz_desk.specs.Owners.{IsSameOwner}
use Rattle.std.specs.List.{All}
use Rattle.vz_threads.specs.{Crews.CrewWorksOn, Crews.crew_of, Crews.IsToldBy, Rounds.PlaysRounds, Told.IsToldOf}
use Rattle.vz_threads.proofs.playing.play.Given as goal

abbrev pub invariant-loop : goal.invariant-loop
invariant-loop g l = record {
  same : IsSameOwner l.fn.d l.d;
  told : IsToldOf (g.G.Gate.told l.gate) l.fn.d → IsToldOf (g.G.Gate.told l.gate) l.d;
  crew : CrewWorksOn (g.G.Gate.told l.gate) (crew_of l.fn.started.items) (crew_of l.started.items);
  gates : All (IsToldBy l.gate) l.fn.started.items → All (IsToldBy l.gate) l.started.items;
  count : vec_len l.started ≡ vec_len l.fn.started;
  played : PlaysRounds l.course.paced (g.O.Outlet.stands l.fn.outlet) l.fn.d (g.O.Outlet.stands l.outlet) l.d l.counter;
}
