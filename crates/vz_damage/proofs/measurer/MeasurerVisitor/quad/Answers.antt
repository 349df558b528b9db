use Rattle.std.proofs.Common.{true, refl}
use Rattle.vz_rules.specs.Walk.{Quad}
use Rattle.vz_damage.proofs.Claiming.{meets_one, met_quad}
use Rattle.vz_damage.specs.declared.measurer.Measurer.{Measurer}
use Rattle.vz_damage.proofs.measurer.MeasurerVisitor.quad.Goals as goal

pub returns : goal.returns
returns c =
    meets_one (λ (m : Measurer). m.told) (λ (m : Measurer). m.last) (λ t. t.now.entries) (λ l. l.now) (λ (m : Measurer). m.damage) (λ
    (m : Measurer). m.ranges) true c.args.self.now c.args.self.now Quad refl refl
    (λ e before h. met_quad c.args.self.now.told.now.entries c.args.self.now.last.now c.args.self.now.damage c.args.self.now.ranges
    before h)
