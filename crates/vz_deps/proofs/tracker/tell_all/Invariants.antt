use Rattle.std.proofs.Common.{take}
use Rattle.vz_deps.specs.Tracking.{meets_any}
use Rattle.vz_deps.specs.Lacking.{Meets, IsRid}
use Rattle.vz_deps.proofs.tracker.tell_all.Given as goal

-- what those so far meet is gone
abbrev pub invariant-loop-id : goal.invariant-loop-id
invariant-loop-id l = Meets (meets_any l.ids) l.fn.lacks l.lacks × IsRid (meets_any (take l.id-index l.ids)) l.lacks
