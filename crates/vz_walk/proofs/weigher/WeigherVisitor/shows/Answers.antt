use Rattle.std.proofs.Common.{true, refl}
use Rattle.vz_rules.specs.Walk.{Shows}
use Rattle.vz_walk.specs.declared.weigher.Weigher.{Weigher}
use Rattle.vz_walk.proofs.Weighing.{passes}
use Rattle.vz_walk.proofs.weigher.WeigherVisitor.shows.Goals as goal

pub returns : goal.returns
returns c = passes (λ (w : Weigher). w.quads) true c.args.self.now (Shows c.args.arg2.now c.args.arg3.now c.args.arg4.now) refl refl
