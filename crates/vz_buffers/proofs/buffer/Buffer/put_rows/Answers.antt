use Rattle.std.proofs.Common.{ap}
use Rattle.vz_buffers.specs.Canvas.{Canvas}
use Rattle.vz_buffers.specs.Pages.{behind_head}
use Rattle.vz_buffers.proofs.Filling.{may_fill}
use Rattle.vz_buffers.proofs.Heads.{stays_memory, rows_are}
use Rattle.vz_buffers.proofs.buffer.Buffer.put_rows.Goals as goal

pub paint_memory-requires-clause-may : goal.paint_memory-requires-clause-may
paint_memory-requires-clause-may g c κs within =
    let own : Canvas = record { size = c.self.inside.size; pixels = behind_head c.self.inside.memory.items } in
    let place = c.place_of-place.ensures in
    may_fill _ _ _ _ _ _ own _ _ c.self.view_is c.self.invariant.1 c.requires place.width place.left place.top place.wide c.height.ensures.value (ap behind_head c.deref_mut.ensures.value)

pub invariant_of-self : goal.invariant_of-self
invariant_of-self g c =
    stays_memory _ _ c.self.inside.memory.items c.deref_mut.result.now c.paint_memory.new.memory _ c.deref_mut.ensures.value c.deref_mut.ensures.len c.paint_memory.ensures.long c.self.invariant

pub returns-clause-put : goal.returns-clause-put
returns-clause-put g c =
    let own : Canvas = record { size = c.self.inside.size; pixels = behind_head c.self.inside.memory.items } in
    let place = c.place_of-place.ensures in
    rows_are g.P.RowPainter.strip c.place_of-place.result c.height.result c.args.painters.now own c.args.self.now c.args.area.now _ c.deref_mut.result.now c.paint_memory.new.memory _ c.self.view_is place.width place.left place.top
    c.height.ensures.value (ap behind_head c.deref_mut.ensures.value) c.deref_mut.ensures.len c.paint_memory.ensures.long c.paint_memory.ensures.painted
