use Rattle.std.proofs.Common.{◌≡◌, map, take}
use Rattle.vz_rules.specs.World.{Submission}
use Rattle.vz_state.proofs.submission.accepted_frames.Given as goal

-- what was submitted so far
abbrev pub invariant-loop-submission : goal.invariant-loop-submission
invariant-loop-submission l = l.frames.items ≡ map (λ (s : Submission). s.submitted) (take l.submission-index l.submissions)
