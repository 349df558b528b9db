use Rattle.std.proofs.Common.{List, subst, sym, ap, ◌∙◌}
use Rattle.vz_damage.specs.Told.{Told, Damaged}
use Rattle.vz_ids.specs.declared.SurfaceId.{SurfaceId}
use Rattle.vz_walk.specs.Scenes.{scene_in, walked_in}
use Rattle.vz_damage.specs.Measured.{Shown, IsMeasured, has_root, told_damage}
use Rattle.vz_damage.specs.declared.measurer.Measurer.{Measurer}
use Rattle.vz_damage.proofs.Claiming.{damage_same, damage_other, ranges_are, measure_is}
use Rattle.vz_damage.proofs.Beside.{too_heavy, light, measured, beside_met}
use Rattle.vz_damage.proofs.damage.Damage.walked.Goals as goal

pub returns-then-visitor-clause-heavy : goal.returns-then-visitor-clause-heavy
returns-then-visitor-clause-heavy g c =
    too_heavy g.V.Visitor.has_met g.V.Visitor.has_stopped c.walk.result c.new.result c.new-measurer.result c.args.beside
    c.new-2.result c.new-visitor.result c.walk.new.visitor (walked_in c.args.size c.args.root.now c.args.store.now) c.new-2.ensures
    c.new-visitor.ensures c.new.ensures (ap (λ (m : Measurer). m.damage) c.new-measurer.ensures)
    (ap (λ (m : Measurer). m.ranges) c.new-measurer.ensures) c.requires.starts c.walk.ensures
    c.if-not-walk.true c.if-visitor.true

pub returns-then-has_root-clause-heavy : goal.returns-then-has_root-clause-heavy
returns-then-has_root-clause-heavy g c =
    light g.V.Visitor.has_met g.V.Visitor.has_stopped c.walk.result c.new.result c.new-measurer.result c.args.beside
    c.new-2.result c.new-visitor.result c.walk.new.visitor (walked_in c.args.size c.args.root.now c.args.store.now) c.new-2.ensures
    c.new-visitor.ensures c.new.ensures (ap (λ (m : Measurer). m.damage) c.new-measurer.ensures)
    (ap (λ (m : Measurer). m.ranges) c.new-measurer.ensures) c.requires.starts c.walk.ensures
    c.if-not-walk.false

pub returns-then-has_root-clause-measured : goal.returns-then-has_root-clause-measured
returns-then-has_root-clause-measured g c =
    let met = measured g.V.Visitor.has_met g.V.Visitor.has_stopped c.walk.result c.new.result c.new-measurer.result c.args.beside
    c.new-2.result c.new-visitor.result c.walk.new.visitor (walked_in c.args.size c.args.root.now c.args.store.now) c.new-2.ensures
    c.new-visitor.ensures c.new.ensures (ap (λ (m : Measurer). m.damage) c.new-measurer.ensures)
    (ap (λ (m : Measurer). m.ranges) c.new-measurer.ensures) c.requires.starts c.walk.ensures
    c.if-not-walk.false in
    let here = c.self.inside in
    let walked = walked_in c.args.size c.args.root.now c.args.store.now in
    let now = c.walk.new.visitor.second.first in
    let own : IsMeasured here.surfaces.entries here.shown now.damage now.ranges walked =
    subst (λ (l : List (SurfaceId × Told)). IsMeasured l here.shown now.damage now.ranges walked) (ap (λ
    (m : Measurer). m.told.now.entries) c.new-measurer.ensures)
    (subst (λ (l : Shown). IsMeasured c.new-measurer.result.told.now.entries l now.damage now.ranges walked) (ap (λ
    (m : Measurer). m.last.now) c.new-measurer.ensures) met) in
    let root = ap (λ (v : Damaged). has_root v.last c.args.root.now) c.self.view_is ∙ (sym c.has_root.ensures ∙ c.if-has_root.true) in
    measure_is c.args.self.now c.args.store.now c.args.root.now c.args.size c.measured.result c.parts-damage.result.0
    c.parts-damage.result.1 c.measured.ensures.changed c.measured.ensures.kept
    (c.parts-damage.ensures.damage
    ∙ (damage_same c.args.size here.root here.shown here.surfaces.entries c.args.root.now walked now.damage now.ranges root own
    ∙ ap (λ (v : Damaged). told_damage c.args.size v.last v.surfaces c.args.root.now walked) c.self.view_is))
    (c.parts-damage.ensures.ranges ∙ ranges_are _ _ _ _ (scene_in c.args.root.now c.args.store.now) walked met)

pub returns-then-has_root-clause-beside : goal.returns-then-has_root-clause-beside
returns-then-has_root-clause-beside g c =
    beside_met g.V.Visitor.has_met g.V.Visitor.has_stopped c.walk.result c.new.result c.new-measurer.result c.args.beside
    c.new-2.result c.new-visitor.result c.walk.new.visitor (walked_in c.args.size c.args.root.now c.args.store.now) c.new-2.ensures
    c.new-visitor.ensures c.new.ensures (ap (λ (m : Measurer). m.damage) c.new-measurer.ensures)
    (ap (λ (m : Measurer). m.ranges) c.new-measurer.ensures) c.requires.starts c.walk.ensures
    c.if-not-walk.false

pub returns-else-has_root-clause-heavy : goal.returns-else-has_root-clause-heavy
returns-else-has_root-clause-heavy g c =
    light g.V.Visitor.has_met g.V.Visitor.has_stopped c.walk.result c.new.result c.new-measurer.result c.args.beside
    c.new-2.result c.new-visitor.result c.walk.new.visitor (walked_in c.args.size c.args.root.now c.args.store.now) c.new-2.ensures
    c.new-visitor.ensures c.new.ensures (ap (λ (m : Measurer). m.damage) c.new-measurer.ensures)
    (ap (λ (m : Measurer). m.ranges) c.new-measurer.ensures) c.requires.starts c.walk.ensures
    c.if-not-walk.false

pub returns-else-has_root-clause-measured : goal.returns-else-has_root-clause-measured
returns-else-has_root-clause-measured g c =
    let met = measured g.V.Visitor.has_met g.V.Visitor.has_stopped c.walk.result c.new.result c.new-measurer.result c.args.beside
    c.new-2.result c.new-visitor.result c.walk.new.visitor (walked_in c.args.size c.args.root.now c.args.store.now) c.new-2.ensures
    c.new-visitor.ensures c.new.ensures (ap (λ (m : Measurer). m.damage) c.new-measurer.ensures)
    (ap (λ (m : Measurer). m.ranges) c.new-measurer.ensures) c.requires.starts c.walk.ensures
    c.if-not-walk.false in
    let walked = walked_in c.args.size c.args.root.now c.args.store.now in
    measure_is c.args.self.now c.args.store.now c.args.root.now c.args.size c.measured-else-has_root.result c.of_display-whole.result
    c.parts-damage.result.1 c.measured-else-has_root.ensures.changed c.measured-else-has_root.ensures.kept
    (c.of_display-whole.ensures
    ∙ damage_other c.args.size c.args.self.now.surfaces c.args.root.now walked c.args.self.now.last c.requires.size
    (sym c.has_root.ensures ∙ c.if-has_root.false))
    (c.parts-damage.ensures.ranges ∙ ranges_are _ _ _ _ (scene_in c.args.root.now c.args.store.now) walked met)

pub returns-else-has_root-clause-beside : goal.returns-else-has_root-clause-beside
returns-else-has_root-clause-beside g c =
    beside_met g.V.Visitor.has_met g.V.Visitor.has_stopped c.walk.result c.new.result c.new-measurer.result c.args.beside
    c.new-2.result c.new-visitor.result c.walk.new.visitor (walked_in c.args.size c.args.root.now c.args.store.now) c.new-2.ensures
    c.new-visitor.ensures c.new.ensures (ap (λ (m : Measurer). m.damage) c.new-measurer.ensures)
    (ap (λ (m : Measurer). m.ranges) c.new-measurer.ensures) c.requires.starts c.walk.ensures
    c.if-not-walk.false
