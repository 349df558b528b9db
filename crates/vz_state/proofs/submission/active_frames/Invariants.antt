use Rattle.std.proofs.Common.{◌≡◌, take}
use Rattle.vz_rules.specs.World.{active_frames}
use Rattle.vz_state.proofs.submission.active_frames.Given as goal

-- the active frames of the submissions so far
abbrev pub invariant-loop-submission : goal.invariant-loop-submission
invariant-loop-submission l = l.active.items ≡ active_frames (take l.submission-index l.submissions)
