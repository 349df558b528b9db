use Rattle.std.proofs.Common.{refl}
use Rattle.vz_geom.specs.Rectangle.{has, minus}
use Rattle.vz_plain.proofs.Pointing.{outside}
use Rattle.vz_plain.proofs.point.found_in.Goals as goal

pub returns-in-None : goal.returns-in-None
returns-in-None c =
    outside c.args.r.now (minus c.args.q c.args.by) (has c.args.r.now (minus c.args.q c.args.by)) c.is_empty.ensures.proper c.in-None.ensures refl
