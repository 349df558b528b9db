use Rattle.std.proofs.Common.{◌≡◌, ◌+◌, ◌++◌, take}
use Rattle.vz_returns.proofs.feedbacks.put_all.Given as goal

-- those so far are put in
abbrev pub invariant-loop-s : goal.invariant-loop-s
invariant-loop-s l = (l.out.list ≡ l.fn.out.list ++ take l.s-index l.list) × (l.fn.out.spare ≡ l.out.spare + l.s-index)
