use Rattle.vz_buffers.proofs.Heads.{may_behind, filled_behind}
use Rattle.vz_buffers.proofs.pages.paint_memory_alone.Goals as goal

pub paint_alone-requires : goal.paint_alone-requires
paint_alone-requires g c =
    let parts = c.split_at_mut-pixels in
    may_behind _ _ _ _ _ c.args.memory.now parts.result.0.now parts.result.1.now parts.ensures.value parts.ensures.front_len c.requires.may

pub returns-clause-painted : goal.returns-clause-painted
returns-clause-painted g c =
    let parts = c.split_at_mut-pixels in
    filled_behind g.P.RowPainter.strip c.args.place c.args.count c.args.painters.now c.args.memory.now parts.result.0.now parts.result.1.now c.paint_alone.new.pixels parts.ensures.value parts.ensures.front_len c.paint_alone.ensures.painted
