use Rattle.std.proofs.Common.{◌≡◌, ◌≤◌}
use Rattle.vz_surfaces.specs.Names.{pass_place}
use Rattle.vz_surfaces.proofs.named.pass_place.Given as goal

-- those from k on have other ids
abbrev pub invariant-loop-k : goal.invariant-loop-k
invariant-loop-k l = (l.k ≤ l.before) × (pass_place l.id l.passes l.before ≡ pass_place l.id l.passes l.k)

abbrev pub decreases-loop-k : goal.decreases-loop-k
decreases-loop-k l = l.k
