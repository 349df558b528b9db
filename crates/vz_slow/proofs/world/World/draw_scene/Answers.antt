use Rattle.std.proofs.Common.{ap, ◌∙◌}
use Rattle.vz_rules.specs.World.{Scene}
use Rattle.vz_slow.specs.Drawn.{walked_answer}
use Rattle.vz_slow.proofs.Drawing.{walked_none, walked_some, scene_too_much, scene_walked}
use Rattle.vz_slow.proofs.world.World.draw_scene.Goals as goal

pub returns-in-None : goal.returns-in-None
returns-in-None c =
    let scene : Scene = record { root = c.args.root; active = c.args.active.now } in
    scene_too_much c.args.plan.now c.args.self.now scene (walked_none c.size-size.result c.args.plan.now scene c.in_ok-walk_of.field-0 c.size-size.ensures.value c.in_ok-walk_of.ensures c.in-None.is)

pub returns-in_ok-draw_walked-in-Some : goal.returns-in_ok-draw_walked-in-Some
returns-in_ok-draw_walked-in-Some c =
    let p = c.args.plan.now in
    let w = c.args.self.now in
    let scene : Scene = record { root = c.args.root; active = c.args.active.now } in
    let walked = walked_some c.size-size.result p scene c.in_ok-walk_of.field-0 c.in-Some.walked c.size-size.ensures.value c.in_ok-walk_of.ensures c.in-Some.is in
    c.in_ok-draw_walked-in-Some.ensures
    ∙ (ap (λ l. walked_answer c.size-size.result w (record { root = c.args.root; active = l }) c.visits.result.now) c.as_slice-active.ensures
    ∙ (ap (λ s. walked_answer s w scene c.visits.result.now) c.size-size.ensures.value
    ∙ scene_walked p w scene c.visits.result.now (c.visits.ensures ∙ walked.0) walked.1))
