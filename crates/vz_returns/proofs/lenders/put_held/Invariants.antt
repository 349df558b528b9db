use Rattle.std.proofs.Common.{◌≡◌, ◌≤◌, ◌++◌, drop}
use Rattle.std.specs.List.{flat_map}
use Rattle.vz_returns.specs.{Held.held, Lent.Lent, Lent.resources_out}
use Rattle.vz_returns.proofs.lenders.put_held.Given as goal

-- what is left belongs behind what is there
abbrev pub invariant-loop-lender : goal.invariant-loop-lender
invariant-loop-lender l =
    (l.out.list ++ flat_map (λ (x : Lent). held x.holding) (drop l.lender-index l.lenders)
    ≡ l.fn.out.list ++ flat_map (λ (x : Lent). held x.holding) l.lenders)
    × (resources_out (drop l.lender-index l.lenders) ≤ l.out.spare)
