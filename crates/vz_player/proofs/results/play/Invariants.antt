use Rattle.std.proofs.Common.{◌≡◌, ◌+◌, false, map, take}
use Rattle.vz_rules.specs.declared.entry.Entry.{Entry}
use Rattle.vz_rules.specs.Frames.{frames_bytes}
use Rattle.vz_player.specs.Played.{frames_of, painted_by}
use Rattle.vz_player.proofs.results.play.Given as goal

-- the player has taken the first events, the bytes are those of its frames, and each pixel was counted
abbrev pub invariant-loop-event : goal.invariant-loop-event
invariant-loop-event g l =
    (l.player.plan ≡ (g.M.Machine.state l.fn.machine).plan) × (l.player.buffers ≡ l.buffers) × (l.player.stopped ≡ false)
    × (map (λ (e : Entry). e.event) l.player.history ≡ take l.event-index l.events) × (l.frames.items ≡ frames_bytes (frames_of l.player))
    × (l.steps ≡ l.fn.steps + painted_by l.player)
