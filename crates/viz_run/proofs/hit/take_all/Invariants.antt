use Rattle.std.proofs.Common.{take}
use Rattle.vz_player.specs.Gated.{IsGated}
use Rattle.viz_run.specs.Taken.{HasTested}
use Rattle.viz_run.proofs.hit.take_all.Given as goal

abbrev pub invariant-loop-event : goal.invariant-loop-event
invariant-loop-event g l = record {
  tested : HasTested (take l.event-index l.events) l.fn.tester l.tester;
  gated : IsGated (g.G.Gate.told l.gate) l.fn.tester.history l.tester.history;
}
