use Rattle.std.proofs.Common.{None, ap, ◌∙◌, cond}
use Rattle.vz_rules.specs.Hit.{Target, hit_at}
use Rattle.vz_walk.specs.Scenes.{scene_in}
use Rattle.vz_hit.proofs.Adding.{adds_alone}
use Rattle.vz_hit.proofs.scene.build.Goals as goal

pub returns-clause-hit : goal.returns-clause-hit
returns-clause-hit c p inside =
    adds_alone _ _ _ c.new-regions.ensures c.in_ok-put_root.ensures p
    ∙ ap {B = Target} (λ t. cond t (hit_at (scene_in c.args.root.now c.args.store.now) p) None) inside

pub returns-clause-outside : goal.returns-clause-outside
returns-clause-outside c p outside =
    adds_alone _ _ _ c.new-regions.ensures c.in_ok-put_root.ensures p
    ∙ ap {B = Target} (λ t. cond t (hit_at (scene_in c.args.root.now c.args.store.now) p) None) outside
