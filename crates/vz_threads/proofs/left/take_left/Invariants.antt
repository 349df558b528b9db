use Rattle.std.proofs.Common.{ℕ, ◌<◌, get_or}
use Rattle.vz_desk.specs.{declared.totals.Totals.Totals, Owners.Owner}
use Rattle.vz_threads.specs.Crews.{CrewWorksOn, HasTakenAll}
use Rattle.vz_threads.proofs.left.take_left.Given as goal

abbrev pub invariant-loop-end : goal.invariant-loop-end
invariant-loop-end g l = record {
  works : CrewWorksOn (g.G.Gate.told l.gate) l.fn.ends.items l.end-items;
  taken : (k : ℕ) (d : Owner Totals) → k < l.end-index → HasTakenAll l.messages (get_or l.end-items k d);
}
