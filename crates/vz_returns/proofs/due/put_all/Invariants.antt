use Rattle.std.proofs.Common.{◌≡◌, ◌+◌, ◌++◌, map, take}
use Rattle.vz_returns.proofs.due.put_all.Given as goal

-- the feedback so far was put
abbrev pub invariant-loop-due : goal.invariant-loop-due
invariant-loop-due l =
    (l.out.list ≡ l.fn.out.list ++ map (λ d. d.fed) (take l.due-index l.list)) × (l.fn.out.spare ≡ l.out.spare + l.due-index)
