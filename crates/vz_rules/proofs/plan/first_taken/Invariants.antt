use Rattle.std.proofs.Common.{◌≡◌, ◌-◌, ◌≤◌, take, drop, length}
use Rattle.vz_rules.specs.Plan.{first_taken, taken_from}
use Rattle.vz_rules.proofs.Sinks_before.{sinks_before}
use Rattle.vz_rules.proofs.plan.first_taken.Given as goal

-- none of the files so far has the sink of an earlier one
abbrev pub invariant-loop-place : goal.invariant-loop-place
invariant-loop-place l =
    record {
      within : l.place ≤ length l.files;
      same : first_taken l.files ≡ taken_from (sinks_before (take l.place l.files)) l.place (drop l.place l.files);
    }

abbrev pub decreases-loop-place : goal.decreases-loop-place
decreases-loop-place l = length l.files - l.place
