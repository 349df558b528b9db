use Rattle.std.proofs.Common.{◌≡◌, ◌+◌, ◌≤◌, ◌++◌, length, vec_len, vec_capacity}
use Rattle.std.specs.List.{All}
use Rattle.vz_threads.specs.Crews.{CrewWorksOn, crew_of, IsToldBy}
use Rattle.vz_threads.proofs.crew.start_all.Given as goal

abbrev pub invariant-loop-end : goal.invariant-loop-end
invariant-loop-end g l = record {
  works : CrewWorksOn (g.G.Gate.told l.gate) l.fn.ends.items (l.ends.items ++ crew_of l.started.items);
  room : vec_len l.started + vec_len l.ends ≤ vec_capacity l.started;
  told : All (IsToldBy l.gate) l.started.items;
  count : vec_len l.started + vec_len l.ends ≡ vec_len l.fn.ends;
  same : vec_capacity l.ends ≡ vec_capacity l.initial.ends;
}

abbrev pub decreases-loop-end : goal.decreases-loop-end
decreases-loop-end g l = length l.ends.items
