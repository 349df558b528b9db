use Rattle.std.proofs.Common.{◌≡◌, take}
use Rattle.vz_state.proofs.copy.copy_submissions.Given as goal

-- the submissions so far
abbrev pub invariant-loop-submission : goal.invariant-loop-submission
invariant-loop-submission l = l.copies.items ≡ take l.submission-index l.submissions
