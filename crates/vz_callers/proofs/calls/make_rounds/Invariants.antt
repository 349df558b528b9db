use Rattle.std.proofs.Common.{◌≡◌, ◌++◌}
use Rattle.vz_callers.specs.{Callers.events_of, Callers.Stays, Callers.HasTold, Callers.IsDisplay, Turns.rounds}
use Rattle.vz_callers.proofs.calls.make_rounds.Given as goal

abbrev pub invariant-loop-before : goal.invariant-loop-before
invariant-loop-before g l = record {
  stays : Stays l.fn.pass l.pass;
  made : events_of l.pass ≡ events_of l.fn.pass ++ rounds l.before;
  told : IsDisplay 0 l.fn.pass → HasTold (g.G.Gate.told l.gate) l.pass;
}
