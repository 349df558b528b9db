use Rattle.std.proofs.Common.{take}
use Rattle.vz_state.specs.Rising.{IsMetBy}
use Rattle.vz_state.proofs.submission.met_by.Given as goal

-- the submissions so far tell it
abbrev pub invariant-loop-submission : goal.invariant-loop-submission
invariant-loop-submission l = IsMetBy l.met (take l.submission-index l.submissions)
