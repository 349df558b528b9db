use Rattle.std.proofs.Common.{sym, subst}
use Rattle.vz_geom.specs.Rectangle.{Covers, sized}
use Rattle.vz_test_machines.proofs.told.whole.Goals as goal

pub returns : goal.returns
returns c = subst (Covers (sized c.args.size.now)) (sym c.of_display.ensures) (λ p h. h)
