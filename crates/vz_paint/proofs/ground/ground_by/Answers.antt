use Rattle.vz_paint.proofs.Grounded.{filled_ground}
use Rattle.vz_paint.proofs.ground.ground_by.Goals as goal

pub returns-then-covers : goal.returns-then-covers
returns-then-covers c =
    let f = c.in-Fill in
    filled_ground c.args.area.now c.args.op.now f.own f.color f.opacity f.blend c.on_black.result f.is (c.covers.ensures.points.0 c.if-covers.true) c.on_black.ensures
