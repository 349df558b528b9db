use Rattle.std.proofs.Common.{is_some, refl, sym, ap, ◌∙◌}
use Rattle.vz_rules.specs.World.{World}
use Rattle.vz_slow.proofs.Drawing.{draw_busy, draw_unnamed}
use Rattle.vz_slow.proofs.world.World.undrawn.Goals as goal

pub returns-then-is_some : goal.returns-then-is_some
returns-then-is_some c = λ p. (draw_busy p c.args.self.now (sym (ap (λ (u : World). is_some u.in_flight) c.self.view_is) ∙ (sym c.is_some.ensures ∙ c.if-is_some.true)), refl)

pub returns-in-None : goal.returns-in-None
returns-in-None c = λ p. (
  draw_unnamed p c.args.self.now (sym (ap (λ (u : World). is_some u.in_flight) c.self.view_is) ∙ (sym c.is_some.ensures ∙ c.if-is_some.false))
      (sym (ap (λ (u : World). u.root) c.self.view_is) ∙ c.in-None.is),
  refl,
)
