use Rattle.std.proofs.Common.{◌≡◌, ◌+◌, take, false}
use Rattle.vz_player.specs.{Gated.IsGated, Played.painted_by}
use Rattle.viz_run.specs.Taken.{HasTaken}
use Rattle.viz_run.proofs.demo.take_all.Given as goal

abbrev pub invariant-loop-event : goal.invariant-loop-event
invariant-loop-event g l = record {
  taken : HasTaken (take l.event-index l.events) l.fn.player l.player;
  going : l.player.stopped ≡ false;
  counted : l.steps + painted_by l.fn.player ≡ l.fn.steps + painted_by l.player;
  gated : IsGated (g.G.Gate.told l.gate) l.fn.player.history l.player.history;
}
