use Rattle.std.proofs.Common.{map}
use Rattle.vz_paint.proofs.Drawn.{IsDrawn}
use Rattle.vz_paint.proofs.drawing.draw_all.Given as goal

-- the operations so far are drawn
abbrev pub invariant-loop-op : goal.invariant-loop-op
invariant-loop-op l =
    IsDrawn l.fn.ground l.start l.lines.width l.lines.left l.lines.wide l.lines.count (map (λ r. r.now) l.ops) l.fn.groups l.op-index l.fn.pixels l.pixels l.groups l.depth
