use Rattle.vz_paint.proofs.Bands_drawn.{strip_same}
use Rattle.vz_paint.proofs.brush.BrushRowPainter.draw_rows.Goals as goal

pub returns-clause-strip : goal.returns-clause-strip
returns-clause-strip c =
    let b = c.args.self.now in
    let e = c.draw_lines.ensures in
    strip_same b.ops.now c.draw_lines.new.self.ops.now b.sheet c.draw_lines.new.self.sheet e.ops e.sheet
