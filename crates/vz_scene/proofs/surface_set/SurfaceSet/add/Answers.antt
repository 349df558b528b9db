use Rattle.std.proofs.Common.{[], ◌∷◌, ◌++◌, subst, ap, ◌∙◌}
use Rattle.vz_scene.specs.Gathered.{AreIn}
use Rattle.vz_scene.proofs.Gathering.{adds_one, adds_none}
use Rattle.vz_scene.proofs.surface_set.SurfaceSet.add.Goals as goal

pub returns-then-not-branch : goal.returns-then-not-branch
returns-then-not-branch c =
    c.in_ok-try_reserve.ensures.items
    ∙ (c.self.view_is
    ∙ adds_none c.self.inside.set c.args.self.now c.args.id.now c.in_ok-insert.field-0 (subst (AreIn c.self.inside.set) c.self.view_is c.self.invariant) c.in_ok-insert.ensures.added c.if-not-branch.true)

pub returns : goal.returns
returns c =
    let id = c.args.id.now in
    adds_one c.self.inside.set c.args.self.now c.push_reserved.new.self.items id c.in_ok-insert.field-0 (subst (AreIn c.self.inside.set) c.self.view_is c.self.invariant) c.in_ok-insert.ensures.added c.if-not-branch.false
    (c.push_reserved.ensures.items ∙ ap (λ l. l ++ id ∷ []) (c.in_ok-try_reserve.ensures.items ∙ c.self.view_is))
