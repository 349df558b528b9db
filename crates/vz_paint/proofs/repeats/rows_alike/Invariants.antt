use Rattle.std.proofs.Common.{◌≤◌, ◌<◌, map}
use Rattle.vz_paint.proofs.Same_rows.{AreAlikeUpto}
use Rattle.vz_paint.proofs.repeats.rows_alike.Given as goal

-- the operations so far draw the same in so many rows
abbrev pub invariant-loop-op : goal.invariant-loop-op
invariant-loop-op l = (0 < l.alike) × (l.alike ≤ l.count) × AreAlikeUpto l.y l.alike l.op-index (map (λ r. r.now) l.ops)
