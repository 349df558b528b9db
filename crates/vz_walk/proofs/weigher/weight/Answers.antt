use Rattle.std.proofs.Common.{refl, sym, subst, ◌∙◌}
use Rattle.vz_rules.specs.Walk.{walk_of}
use Rattle.vz_rules.specs.World.{Scene}
use Rattle.std.proofs.Common.{pos}
use Rattle.vz_surfaces.specs.Reading.{seen_frames}
use Rattle.vz_walk.specs.declared.weigher.Weigher.{Weigher}
use Rattle.vz_walk.specs.Weighing.{IsWeighed, IsHeavy}
use Rattle.vz_walk.specs.Meeting.{Meets}
use Rattle.vz_walk.proofs.Alike.{same_weight, same_much}
use Rattle.vz_walk.proofs.Weighing.{weighs, is_heavy}
use Rattle.vz_walk.proofs.weigher.weight.Goals as goal

pub returns-then-walk : goal.returns-then-walk
returns-then-walk c = λ size.
    let scene : Scene = record { root = c.args.root.now; active = seen_frames c.args.store.now } in
    let start : Weigher = record { quads = 0 } in
    let h = weighs (λ (w : Weigher). w.quads) start c.walk.new.visitor (walk_of (record { w = pos 1; h = pos 1 }) scene) refl
    (subst (λ t. Meets (λ (first w : Weigher) visits. IsWeighed w.quads visits) (λ
    (w : Weigher) visits. IsHeavy visits) t start c.walk.new.visitor (walk_of
    (record { w = pos 1; h = pos 1 }) scene)) c.if-walk.true c.walk.ensures) in (
      h.quads ∙ same_weight (record { w = pos 1; h = pos 1 }) size scene,
      sym (same_much (record { w = pos 1; h = pos 1 }) size scene)
          ∙ h.few,
    )

pub returns-else-walk : goal.returns-else-walk
returns-else-walk c = λ size.
    let scene : Scene = record { root = c.args.root.now; active = seen_frames c.args.store.now } in
    let start : Weigher = record { quads = 0 } in
    sym (same_much (record { w = pos 1; h = pos 1 }) size scene)
    ∙ is_heavy (λ (w : Weigher). w.quads) start c.walk.new.visitor (walk_of (record { w = pos 1; h = pos 1 }) scene) refl
    (subst (λ t. Meets (λ (first w : Weigher) visits. IsWeighed w.quads visits) (λ
    (w : Weigher) visits. IsHeavy visits) t start c.walk.new.visitor (walk_of
    (record { w = pos 1; h = pos 1 }) scene)) c.if-walk.false c.walk.ensures)
