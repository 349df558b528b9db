use Rattle.std.proofs.Common.{true, refl, ap, ◌∙◌}
use Rattle.vz_geom.specs.Rectangle.{Rectangle}
use Rattle.vz_ids.specs.declared.SurfaceId.{SurfaceId}
use Rattle.vz_rules.specs.Walk.{Enters}
use Rattle.vz_damage.specs.Told.{told_on, damage_in}
use Rattle.vz_damage.specs.Measured.{seen_damage}
use Rattle.vz_damage.proofs.Claiming.{meets_one, met_surface}
use Rattle.vz_damage.specs.declared.measurer.Measurer.{Measurer}
use Rattle.vz_damage.proofs.measurer.MeasurerVisitor.enters.Goals as goal

pub returns : goal.returns
returns c =
    let old = c.args.self.now in
    let i = c.args.frame.now in
    let place = c.args.place.now in
    let new : Measurer = record { told = old.told; last = old.last; damage = c.bound-self.result; ranges = old.ranges } in
    let is = c.seen_damage-seen.ensures.value
    ∙ ap (λ (d : Rectangle). seen_damage d i place) (c.damage_of-damage.ensures
    ∙ ap (λ (x : SurfaceId). damage_in (told_on old.told.now.entries x)) c.id.ensures) in
    meets_one (λ (m : Measurer). m.told) (λ (m : Measurer). m.last) (λ t. t.now.entries) (λ l. l.now) (λ (m : Measurer). m.damage) (λ
    (m : Measurer). m.ranges) true old new (Enters c.args.arg2 i place) refl refl
    (λ e before h. met_surface old.told.now.entries old.last.now old.damage c.bound-self.result c.seen_damage-seen.result old.ranges
    before c.args.arg2 i place c.seen_damage-seen.ensures.proper is
    c.bound-self.ensures.value h)
