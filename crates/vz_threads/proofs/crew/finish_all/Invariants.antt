use Rattle.std.proofs.Common.{◌+◌, ◌≤◌, ◌++◌, length, vec_len, vec_capacity}
use Rattle.std.specs.List.{All}
use Rattle.vz_threads.specs.Crews.{CrewWorksOn, crew_of, IsToldBy}
use Rattle.vz_threads.proofs.crew.finish_all.Given as goal

abbrev pub invariant-loop-one : goal.invariant-loop-one
invariant-loop-one g l = record {
  works : (gate : _) → All (IsToldBy gate) l.fn.started.items → All (IsToldBy gate) l.started.items × CrewWorksOn (g.G.Gate.told gate) (crew_of l.fn.started.items) (l.ends.items ++ crew_of l.started.items);
  room : vec_len l.ends + vec_len l.started ≤ vec_capacity l.ends;
}

abbrev pub decreases-loop-one : goal.decreases-loop-one
decreases-loop-one g l = length l.started.items
