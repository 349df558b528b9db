use Rattle.std.proofs.Common.{take}
use Rattle.vz_player.specs.Gated.{IsGated}
use Rattle.vz_player.proofs.Taking.{HasPlayed}
use Rattle.vz_player.proofs.to_shelf.play_frames.Given as goal

-- the events so far were taken, their frames were written, and the gate was told of them
abbrev pub invariant-loop-event : goal.invariant-loop-event
invariant-loop-event g l = record {
  played : HasPlayed l.file.slot (take l.event-index l.events) l.initial.player l.initial.steps (g.F.Shelf.shelved l.initial.shelf) l.player l.steps (g.F.Shelf.shelved l.shelf);
  gated : IsGated (g.G.Gate.told l.gate) l.initial.player.history l.player.history;
}
