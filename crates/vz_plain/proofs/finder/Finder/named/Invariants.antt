use Rattle.std.proofs.Common.{◌≡◌, ◌≤◌, length}
use Rattle.vz_plain.specs.Finding.{passes_in}
use Rattle.vz_plain.proofs.finder.Finder.named.Given as goal

-- the passes that are left answer as all do
abbrev pub invariant-passes : goal.invariant-passes
invariant-passes l = (length l.left ≤ length l.passes) × (passes_in l.self l.left l.id l.local ≡ passes_in l.self l.passes l.id l.local)

abbrev pub decreases-passes : goal.decreases-passes
decreases-passes l = length l.left
