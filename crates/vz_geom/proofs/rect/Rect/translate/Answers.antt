use Rattle.std.proofs.Common.{◌≡◌, ◌+ℤ◌, ◌∙◌, rules, ap, sym, arith}
use Rattle.std.specs.Int.{w32}
use Rattle.std.proofs.lemmas.Int.{ints, to_z-of_z}
use Rattle.std.specs.Prelude.{FitsSigned}
use Rattle.vz_geom.specs.Rectangle.{Rectangle, has, plus}
use Rattle.vz_geom.proofs.Sets.{has_moved_is}
use Rattle.vz_geom.proofs.Algebra.{same_sides, moved_opens}
use Rattle.vz_geom.proofs.Numbers.{given, all_given, sum_given}
use Rattle.vz_geom.proofs.rect.Rect.translate.Goals as goal

pub new-requires-clause-right : goal.new-requires-clause-right
new-requires-clause-right c =
    let a : Rectangle = record { x = c.self.inside.x; y = c.self.inside.y; w = c.self.inside.w; h = c.self.inside.h } in
    let m = all_given a c.self.invariant in
    let x = ap (λ (r : Rectangle). r.x) c.self.view_is in
    let w = ap (λ (r : Rectangle). r.w) c.self.view_is in
    let fits : FitsSigned w32 c.args.by.x = search rules in
    let sum : given (given a.x +ℤ given c.args.by.x) ≡ a.x +ℤ c.args.by.x = sum_given a.x c.args.by.x m.x (to_z-of_z w32 c.args.by.x fits) (omega (arith, ints)) (omega (arith, ints)) in
    rw (sum, m.w) (omega (arith, ints))

pub new-requires-clause-bottom : goal.new-requires-clause-bottom
new-requires-clause-bottom c =
    let a : Rectangle = record { x = c.self.inside.x; y = c.self.inside.y; w = c.self.inside.w; h = c.self.inside.h } in
    let m = all_given a c.self.invariant in
    let y = ap (λ (r : Rectangle). r.y) c.self.view_is in
    let h = ap (λ (r : Rectangle). r.h) c.self.view_is in
    let fits : FitsSigned w32 c.args.by.y = search rules in
    let sum : given (given a.y +ℤ given c.args.by.y) ≡ a.y +ℤ c.args.by.y = sum_given a.y c.args.by.y m.y (to_z-of_z w32 c.args.by.y fits) (omega (arith, ints)) (omega (arith, ints)) in
    rw (sum, m.h) (omega (arith, ints))

pub returns-clause-value : goal.returns-clause-value
returns-clause-value c =
    let a : Rectangle = record { x = c.self.inside.x; y = c.self.inside.y; w = c.self.inside.w; h = c.self.inside.h } in
    let m = all_given a c.self.invariant in
    let x = ap (λ (r : Rectangle). r.x) c.self.view_is in
    let y = ap (λ (r : Rectangle). r.y) c.self.view_is in
    let w = ap (λ (r : Rectangle). r.w) c.self.view_is in
    let h = ap (λ (r : Rectangle). r.h) c.self.view_is in
    let fits_x : FitsSigned w32 c.args.by.x = search rules in
    let fits_y : FitsSigned w32 c.args.by.y = search rules in
    let sum_x : given (given a.x +ℤ given c.args.by.x) ≡ a.x +ℤ c.args.by.x = sum_given a.x c.args.by.x m.x (to_z-of_z w32 c.args.by.x fits_x) (omega (arith, ints)) (omega (arith, ints)) in
    let sum_y : given (given a.y +ℤ given c.args.by.y) ≡ a.y +ℤ c.args.by.y = sum_given a.y c.args.by.y m.y (to_z-of_z w32 c.args.by.y fits_y) (omega (arith, ints)) (omega (arith, ints)) in
    c.new.ensures.value ∙ same_sides (sum_x ∙ ap (λ z. z +ℤ c.args.by.x) x) (sum_y ∙ ap (λ z. z +ℤ c.args.by.y) y) (m.w ∙ w) (m.h ∙ h)
    ∙ sym (moved_opens c.args.self.now c.args.by)

pub returns-clause-points : goal.returns-clause-points
returns-clause-points c p =
    ap (λ (r : Rectangle). has r (plus p c.args.by)) (returns-clause-value c) ∙ has_moved_is c.args.self.now c.args.by p
