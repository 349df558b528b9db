use Rattle.std.proofs.Common.{◌≡◌, take}
use Rattle.std.specs.List.{flat_map}
use Rattle.vz_state.specs.Naming.{ends_of}
use Rattle.vz_slow.proofs.world.World.ends.Given as goal

-- the ends of the submissions so far
abbrev pub invariant-loop-submission : goal.invariant-loop-submission
invariant-loop-submission l = l.all.items ≡ flat_map (ends_of l.self) (take l.submission-index l.submissions)
