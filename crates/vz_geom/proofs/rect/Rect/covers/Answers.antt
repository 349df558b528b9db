use Rattle.std.proofs.Common.{◌≡◌, ◌∙◌, sym, int_le, ◌+ℤ◌}
use Rattle.vz_geom.specs.Rectangle.{covers_rect}
use Rattle.vz_geom.proofs.Bounds.{by_axes, covers_empty, covers_of_test, test_of_covers}
use Rattle.vz_geom.proofs.rect.Rect.covers.Goals as goal

the_value : (c : goal.After-encloses) → c.encloses.result ≡ covers_rect c.args.self.now c.args.r.now
the_value c =
    let a = c.args.self.now in
    let b = c.args.r.now in
    let not_empty = sym c.is_empty.ensures.value ∙ c.if-is_empty.false in
    rw not_empty (c.encloses.ensures.across_and_down ∙ by_axes (int_le a.x b.x) (int_le a.y b.y) (int_le (b.x +ℤ b.w) (a.x +ℤ a.w)) (int_le (b.y +ℤ b.h) (a.y +ℤ a.h)))

pub returns-else-is_empty-clause-value : goal.returns-else-is_empty-clause-value
returns-else-is_empty-clause-value c = the_value c

pub returns-else-is_empty-clause-points : goal.returns-else-is_empty-clause-points
returns-else-is_empty-clause-points c =
    (λ t. covers_of_test _ _ (sym (the_value c) ∙ t), λ k. the_value c ∙ test_of_covers _ _ k)

pub returns-then-is_empty-clause-points : goal.returns-then-is_empty-clause-points
returns-then-is_empty-clause-points c =
    (λ t. covers_empty c.args.self.now c.args.r.now (sym c.is_empty.ensures.value ∙ t), λ k. c.if-is_empty.true)
