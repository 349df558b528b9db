use Rattle.std.proofs.Common.{◌≡◌, ◌++◌, take}
use Rattle.vz_rules.specs.Reach.{lost_of}
use Rattle.vz_state.proofs.lost.add_lost.Given as goal

-- those of the surfaces so far are appended
abbrev pub invariant-loop-surface : goal.invariant-loop-surface
invariant-loop-surface l = l.all.items ≡ l.initial.all.items ++ lost_of (take l.surface-index l.lost) l.client
