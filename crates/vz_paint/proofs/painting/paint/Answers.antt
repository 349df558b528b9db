use Rattle.std.proofs.Common.{rules}
use Rattle.vz_geom.specs.Rectangle.{IsRectangle}
use Rattle.vz_machine.proofs.Whole.{inside_all}
use Rattle.vz_paint.proofs.Painted.{full_area}
use Rattle.vz_paint.proofs.Bytes_of_groups.{threads_fit}
use Rattle.vz_paint.proofs.painting.paint.Goals as goal

pub paint_area-requires-clause-inside : goal.paint_area-requires-clause-inside
paint_area-requires-clause-inside g c = λ _ _.
    let good : IsRectangle c.args.area = search rules in
    let many = c.threads_for-threads.ensures in
    inside_all c.args.buffer.now.size c.args.area c.requires.inside (full_area c.args.area c.threads_for-threads.result c.area.result good many.some c.if-threads-eq1.false many.worth c.area.ensures)

pub paint_area-requires-clause-scratch : goal.paint_area-requires-clause-scratch
paint_area-requires-clause-scratch g c = λ _ _.
    let many = c.threads_for-threads.ensures in
    threads_fit c.args.area c.args.ops.now c.threads_for-threads.result c.bytes_of_brush.result c.deepest.result many.some c.if-threads-eq1.false many.scratch c.bytes_of_brush.ensures.value c.deepest.ensures.value
