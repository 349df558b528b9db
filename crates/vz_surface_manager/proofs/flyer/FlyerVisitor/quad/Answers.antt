use Rattle.std.proofs.Common.{true, refl}
use Rattle.vz_rules.specs.Walk.{Quad}
use Rattle.vz_surface_manager.specs.declared.flyer.Flyer.{Flyer}
use Rattle.vz_surface_manager.proofs.Rostered.{meets_one}
use Rattle.vz_surface_manager.proofs.flyer.FlyerVisitor.quad.Goals as goal

pub returns : goal.returns
returns c = meets_one (λ (f : Flyer). f.roster) true c.args.self.now c.args.self.now Quad (λ e. refl)
