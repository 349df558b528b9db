use Rattle.std.proofs.Common.{take}
use Rattle.vz_player.specs.declared.actors.TheConstants.{MOST_ACTORS}
use Rattle.vz_player.specs.Played.{HasCounted}
use Rattle.vz_player.proofs.actors.Actors.after.Given as goal

-- the steps of the entries so far were counted
abbrev pub invariant-loop-entry : goal.invariant-loop-entry
invariant-loop-entry l = HasCounted MOST_ACTORS (take l.entry-index l.history) l.actors
