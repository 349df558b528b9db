use Rattle.vz_callers.specs.Callers.{MakesCalls}
use Rattle.vz_callers.proofs.calls.make_calls.Given as goal

abbrev pub invariant-loop-made : goal.invariant-loop-made
invariant-loop-made g l = MakesCalls (g.G.Gate.told l.gate) l.fn.pass l.pass l.made
