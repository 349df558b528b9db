use Rattle.std.proofs.Common.{refl, sym, ◌∙◌}
use Rattle.vz_rules.specs.Walk.{Shows}
use Rattle.vz_damage.proofs.Claiming.{meets_one, met_range, where_ok}
use Rattle.vz_damage.specs.declared.measurer.Measurer.{Measurer}
use Rattle.vz_damage.proofs.measurer.MeasurerVisitor.shows.Goals as goal

pub returns : goal.returns
returns c =
    let old = c.args.self.now in
    let new : Measurer = record { told = old.told; last = old.last; damage = c.with_range-self.result; ranges = c.note.new.self } in
    meets_one (λ (m : Measurer). m.told) (λ (m : Measurer). m.last) (λ t. t.now.entries) (λ l. l.now) (λ (m : Measurer). m.damage) (λ
    (m : Measurer). m.ranges) c.is_ok.result old new (Shows c.args.range.now c.args.shown.now c.args.seen.now) refl refl
    (λ e before h. met_range old.told.now.entries old.last.now old.damage c.with_range-self.result old.ranges c.note.new.self before
    c.args.range.now c.args.shown.now c.args.seen.now
    c.with_range-self.ensures.proper c.with_range-self.ensures.value (where_ok c.note.result _ c.note.ensures
    (sym c.is_ok.ensures.value ∙ e)) h)
