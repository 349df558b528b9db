use Rattle.std.proofs.Common.{ap, ◌∙◌, [], ◌∷◌, arith}
use Rattle.vz_rules.specs.Closure.{adding}
use Rattle.vz_rules.specs.Damage.{of_same_range}
use Rattle.vz_rules.specs.Scene.{id_of_frame}
use Rattle.vz_damage.specs.Measured.{Shown}
use Rattle.vz_damage.proofs.Ranging.{noted_next}
use Rattle.vz_damage.proofs.noted.Noted.note.Goals as goal

pub returns-then-is_at : goal.returns-then-is_at
returns-then-is_at c =
    noted_next c.self.inside.met c.self.inside.shown.entries (c.args.range.now, id_of_frame c.args.now.now)
    (c.is_at.ensures.there c.if-is_at.true) (c.is_at.ensures.first c.if-is_at.true)
    ∙ ap (λ (l : Shown). adding of_same_range l ((c.args.range.now, id_of_frame c.args.now.now) ∷ [])) c.self.view_is

pub overflow_add-self : goal.overflow_add-self
overflow_add-self c = let low = c.is_at.ensures.low c.if-is_at.true in omega (arith, low)
