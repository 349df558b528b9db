use Rattle.vz_buffers.proofs.Heads.{may_behind, filled_behind}
use Rattle.vz_buffers.proofs.pages.paint_memory.Goals as goal

pub paint_within-requires-after_bounds : goal.paint_within-requires-after_bounds
paint_within-requires-after_bounds g c κs within =
    let parts = c.split_at_mut-pixels in
    may_behind _ _ _ _ _ c.args.memory.now parts.result.0.now parts.result.1.now parts.ensures.value parts.ensures.front_len c.requires.may

pub returns-clause-painted : goal.returns-clause-painted
returns-clause-painted g c =
    let parts = c.split_at_mut-pixels in
    filled_behind g.P.RowPainter.strip c.args.place c.args.count c.args.painters.now c.args.memory.now parts.result.0.now parts.result.1.now c.paint_within.new.pixels parts.ensures.value parts.ensures.front_len c.paint_within.ensures.painted
