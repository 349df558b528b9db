use Rattle.std.proofs.Common.{◌≡◌, ◌-◌, length, drop}
use Rattle.vz_returns.specs.{Held.first_from, Ordered.in_order}
use Rattle.vz_returns.proofs.counts.Table.next_from.Given as goal

-- the least of those from the end on
abbrev pub invariant-loop-k : goal.invariant-loop-k
invariant-loop-k l = (l.least ≡ first_from l.from (in_order (drop (l.len - l.k) l.self-inside.counts.entries))) × (l.len ≡ length l.self-inside.counts.entries)
