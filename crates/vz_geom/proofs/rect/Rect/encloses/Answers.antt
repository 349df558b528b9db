use Rattle.std.proofs.Common.{◌≡◌, Bool, true, false, ◌&&◌, ◌∙◌}
use Rattle.vz_geom.specs.Rectangle.{Rectangle}
use Rattle.vz_geom.proofs.Numbers.{across, down, across_given, down_given}
use Rattle.vz_geom.proofs.rect.Rect.encloses.Goals as goal

then_both : (s t p q : Bool) → s ≡ true → s ≡ p → t ≡ q → t ≡ (p && q)
then_both true t true q e f g = g
then_both true t false q e f g = absurd (cc)
then_both false t p q e f g = absurd (cc)

seen : (f : Rectangle → Rectangle → Bool) (a a' b b' : Rectangle) → a ≡ a' → b ≡ b' → f a b ≡ f a' b'
seen f a a' b b' p q = cc

pub returns-then-is_span_in : goal.returns-then-is_span_in
returns-then-is_span_in c =
    let a : Rectangle = record { x = c.self.inside.x; y = c.self.inside.y; w = c.self.inside.w; h = c.self.inside.h } in
    let b : Rectangle = record { x = c.r.inside.x; y = c.r.inside.y; w = c.r.inside.w; h = c.r.inside.h } in
    record {
      across_and_down =
          then_both c.is_span_in.result c.is_span_in-then-is_span_in.result (across c.args.self.now c.args.r.now) (down c.args.self.now c.args.r.now) c.if-is_span_in.true
          (c.is_span_in.ensures ∙ across_given a b c.self.invariant c.r.invariant ∙ seen across a c.args.self.now b c.args.r.now c.self.view_is c.r.view_is)
          (c.is_span_in-then-is_span_in.ensures ∙ down_given a b c.self.invariant c.r.invariant ∙ seen down a c.args.self.now b c.args.r.now c.self.view_is c.r.view_is);
    }
