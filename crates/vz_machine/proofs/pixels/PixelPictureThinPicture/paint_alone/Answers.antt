use Rattle.std.proofs.Common.{◌∙◌}
use Rattle.vz_machine.specs.Pictured.{Pixelled}
use Rattle.vz_machine.proofs.Whole.{painted_whole}
use Rattle.vz_machine.proofs.pixels.PixelPictureThinPicture.paint_alone.Goals as goal

pub returns-clause-painted : goal.returns-clause-painted
returns-clause-painted g c =
    let own : Pixelled = record { size = c.self.inside.size; pixels = c.self.inside.pixels.items; changed = c.self.inside.changed } in
    c.paint_area.ensures.painted
    ∙ painted_whole c.size-size.result c.args.area own c.args.self.now c.deref.result.now c.args.buffer.now.pixels (c.size-size.ensures.value ∙ c.requires.same) c.self.view_is c.self.invariant c.deref.ensures.value
