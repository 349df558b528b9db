use Rattle.std.proofs.Common.{◌≡◌, reverse}
use Rattle.vz_plain.specs.Finding.{hit_first}
use Rattle.vz_plain.specs.Remaining.{remaining}
use Rattle.vz_plain.proofs.hits.search.Given as goal

-- what is hit in the passes that are left is what is hit in all
abbrev pub invariant-passes : goal.invariant-passes
invariant-passes l = hit_first l.active (reverse l.stack.items) ≡ hit_first l.active (reverse l.initial.stack.items)

abbrev pub decreases-passes : goal.decreases-passes
decreases-passes l = remaining l.stack.items
