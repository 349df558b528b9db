use Rattle.std.proofs.Common.{◌≤◌, ◌+◌, true, Option, List, length, take}
use Rattle.vz_rules.specs.{declared.entry.Fed.Fed, World.Submission, World.has_sub}
use Rattle.vz_returns.specs.{Owed.Owes, Notes.noted}
use Rattle.vz_returns.proofs.pending_feedback.PendingFeedback.note_all.Given as goal

-- the feedback of those so far is due
abbrev pub invariant-loop-sub : goal.invariant-loop-sub
invariant-loop-sub l =
    (owed : (gets : Submission → Option Fed) (subs : List Submission) → Owes gets subs l.fn.self.owed
    → Owes (noted (has_sub (take l.sub-index l.drawn)) true gets) subs l.self.owed)
    × (due : length l.self.owed.due ≤ length l.fn.self.owed.due + l.sub-index) × (l.fn.self.spare ≤ l.self.spare)
