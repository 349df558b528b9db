use Rattle.std.proofs.Common.{◌≡◌, ◌≤◌, take, reverse, find, is_some, length}
use Rattle.vz_surfaces.specs.declared.groups.Link.{Link}
use Rattle.vz_surfaces.specs.Chains.{acting_under}
use Rattle.vz_surfaces.proofs.groups.last_active.Given as goal

-- none of those behind has an active frame
abbrev pub invariant-loop-left : goal.invariant-loop-left
invariant-loop-left l = (find (λ (x : Link). is_some (acting_under l.table x.key)) (reverse l.chain) ≡ find (λ (x : Link). is_some (acting_under l.table x.key)) (reverse (take l.left l.chain))) × (l.left ≤ length l.chain)

abbrev pub decreases-loop-left : goal.decreases-loop-left
decreases-loop-left l = l.left
