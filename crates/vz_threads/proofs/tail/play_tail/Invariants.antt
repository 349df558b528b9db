use Rattle.vz_rules.specs.Step.{world}
use Rattle.vz_player.specs.Gated.{IsGated}
use Rattle.vz_threads.proofs.Tailing.{Begins, latest_in}
use Rattle.vz_threads.proofs.tail.play_tail.Given as goal

-- frames were begun while a submission waited, what was drawn was written, and the gate was told
abbrev pub invariant-loop-player : goal.invariant-loop-player
invariant-loop-player g l = record {
  tail : Begins l.file.slot l.initial.player l.initial.steps (g.F.Shelf.shelved l.initial.shelf) l.player l.steps (g.F.Shelf.shelved l.shelf);
  gated : IsGated (g.G.Gate.told l.gate) l.initial.player.history l.player.history;
}

-- the latest deadline that is waited for comes nearer
abbrev pub decreases-loop-player : goal.decreases-loop-player
decreases-loop-player g l = latest_in (world l.player.plan l.player.history)
