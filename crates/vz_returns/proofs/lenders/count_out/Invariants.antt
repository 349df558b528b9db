use Rattle.std.proofs.Common.{◌≡◌, ◌+◌, drop}
use Rattle.vz_returns.specs.Lent.{resources_out}
use Rattle.vz_returns.proofs.lenders.count_out.Given as goal

-- those that are left are still to be counted
abbrev pub invariant-loop-lender : goal.invariant-loop-lender
invariant-loop-lender l = l.places + resources_out (drop l.lender-index l.lenders) ≡ resources_out l.lenders + l.more
