use Rattle.std.proofs.Common.{◌≡◌, ◌+◌, ◌++◌, take}
use Rattle.vz_returns.proofs.queue.put_all.Given as goal

-- those so far are put in
abbrev pub invariant-loop-returned : goal.invariant-loop-returned
invariant-loop-returned l = (l.out.list ≡ l.fn.out.list ++ take l.returned-index l.list) × (l.fn.out.spare ≡ l.out.spare + l.returned-index)
