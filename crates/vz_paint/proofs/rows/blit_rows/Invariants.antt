use Rattle.vz_flat.specs.declared.op.Op.TheVariants.{Blit}
use Rattle.vz_paint.specs.Redraw.{step_of}
use Rattle.vz_paint.proofs.Redrawn.{IsUpto}
use Rattle.vz_paint.proofs.rows.blit_rows.Given as goal

-- the rows so far are blended
abbrev pub invariant-loop-k : goal.invariant-loop-k
invariant-loop-k l = IsUpto l.fn.lines.width l.fn.lines.left l.fn.lines.wide l.fn.lines.count l.here.top l.k (step_of l.fn.start (Blit l.fn.area l.fn.block l.fn.tx l.fn.ty l.fn.opacity l.fn.mode)) l.fn.pixels l.pixels
