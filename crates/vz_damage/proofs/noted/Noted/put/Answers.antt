use Rattle.std.proofs.Common.{◌∷◌, [], take, Option, is_some, ap, sym, ◌∙◌}
use Rattle.vz_ids.specs.declared.SurfaceId.{SurfaceId}
use Rattle.vz_rules.specs.Closure.{adding}
use Rattle.vz_rules.specs.Damage.{of_same_range}
use Rattle.vz_rules.specs.Scene.{id_of_frame}
use Rattle.vz_damage.specs.Measured.{Shown}
use Rattle.vz_damage.proofs.Ranging.{noted_kept, noted_put, copied_some}
use Rattle.vz_damage.proofs.noted.Noted.put.Goals as goal

pub returns-then-is_some : goal.returns-then-is_some
returns-then-is_some c =
    let there = sym (ap is_some c.get.ensures.value) ∙ (copied_some c.get.result ∙ (sym c.is_some.ensures ∙ c.if-is_some.true)) in
    noted_kept c.self.inside.met c.self.inside.shown.entries c.truncate.new.self.entries c.args.range.now (id_of_frame c.args.now.now)
    c.truncate.ensures.entries there
    ∙ ap (λ (l : Shown). adding of_same_range l ((c.args.range.now, id_of_frame c.args.now.now) ∷ [])) c.self.view_is

pub returns : goal.returns
returns c =
    let none = sym (ap is_some c.get.ensures.value) ∙ (copied_some c.get.result ∙ (sym c.is_some.ensures ∙ c.if-is_some.false)) in
    noted_put c.self.inside.met c.len-self-inside.result c.self.inside.shown.entries c.truncate.new.self.entries c.insert.new.self.entries
    c.args.range.now c.id_of.result c.truncate.ensures.entries none c.in_ok-insert.ensures.entries c.len-self-inside.ensures.len
    ∙ (ap (λ (v : Option SurfaceId). adding of_same_range (take c.self.inside.met c.self.inside.shown.entries) ((c.args.range.now, v) ∷ [])) c.id_of.ensures
    ∙ ap (λ (l : Shown). adding of_same_range l ((c.args.range.now, id_of_frame c.args.now.now) ∷ [])) c.self.view_is)
