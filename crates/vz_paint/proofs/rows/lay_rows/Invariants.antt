use Rattle.vz_paint.specs.Redraw.{lays}
use Rattle.vz_paint.proofs.Redrawn.{IsUpto}
use Rattle.vz_paint.proofs.rows.lay_rows.Given as goal

-- the rows so far are blended
abbrev pub invariant-loop-k : goal.invariant-loop-k
invariant-loop-k l = IsUpto l.fn.lines.width l.fn.lines.left l.fn.lines.wide l.fn.lines.count l.here.top l.k (lays l.fn.start l.fn.lines.wide l.fn.group) l.fn.pixels l.pixels
