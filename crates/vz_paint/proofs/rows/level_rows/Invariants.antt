use Rattle.vz_paint.proofs.Redrawn.{IsUpto}
use Rattle.vz_paint.proofs.rows.level_rows.Given as goal

-- the rows so far are filled
abbrev pub invariant-loop-k : goal.invariant-loop-k
invariant-loop-k l = IsUpto l.fn.lines.width l.fn.lines.left l.fn.lines.wide l.fn.lines.count 0 l.k (λ r i d. l.fn.ground) l.fn.pixels l.pixels
