use Rattle.std.proofs.Common.{ℕ, ◌<◌, get_or}
use Rattle.std.specs.List.{All}
use Rattle.vz_threads.specs.Crews.{CrewWorksOn, crew_of, IsToldBy, IsServedHere}
use Rattle.vz_threads.proofs.crew.serve_all.Given as goal

abbrev pub invariant-loop-one : goal.invariant-loop-one
invariant-loop-one g l = record {
  works : CrewWorksOn (g.G.Gate.told l.gate) (crew_of l.fn.started.items) (crew_of l.one-items);
  gates : All (IsToldBy l.gate) l.fn.started.items → All (IsToldBy l.gate) l.one-items;
  served : (k : ℕ) (d : _) → k < l.one-index → IsServedHere l.messages (get_or l.one-items k d);
}
