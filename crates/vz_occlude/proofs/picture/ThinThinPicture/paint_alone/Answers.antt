use Rattle.std.proofs.Common.{◌∙◌}
use Rattle.vz_occlude.specs.Pictures.{Thinned}
use Rattle.vz_occlude.proofs.Painted.{covers_there, painted_with}
use Rattle.vz_occlude.proofs.picture.ThinThinPicture.paint_alone.Goals as goal

pub paint_alone-requires : goal.paint_alone-requires
paint_alone-requires g c = record {
  inside = covers_there c.args.self.now c.args.buffer.now.size c.args.area c.requires.same c.requires.inside;
}

pub returns-clause-painted : goal.returns-clause-painted
returns-clause-painted g c =
    let own : Thinned =
    record { size = c.self.inside.size; whole = c.self.inside.whole.value; ops = c.self.inside.ops; damage = c.self.inside.damage; gone = c.self.inside.gone } in
    c.in_ok-paint_alone.ensures.painted
    ∙ painted_with own c.args.self.now c.args.buffer.now.size c.args.area c.args.buffer.now.pixels c.self.view_is c.requires.same
