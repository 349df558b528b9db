use Rattle.std.proofs.Common.{sym, ap, ◌∙◌}
use Rattle.vz_rules.specs.World.{Machine, Scene}
use Rattle.vz_rules.specs.Hit.{hit_at}
use Rattle.vz_slow.proofs.Drawing.{walked_none, walked_some}
use Rattle.vz_slow.proofs.Hitting.{hit_nowhere, hit_too_much, hit_scene}
use Rattle.vz_slow.proofs.slow.Slow.hit.Goals as goal

pub returns-in-None : goal.returns-in-None
returns-in-None c = hit_nowhere c.args.self.now.plan c.args.self.now.world c.args.point c.root.result c.root.ensures c.in-None.is

pub returns-in-None-2 : goal.returns-in-None-2
returns-in-None-2 c =
    let p = c.args.self.now.plan in
    let scene : Scene = record { root = c.in-Some.root; active = c.in_ok-active-in-Some.active } in
    let size = c.size.ensures.value ∙ ap (λ (m : Machine). m.plan.size) c.self.view_is in
    hit_too_much p c.args.self.now.world c.args.point scene.root scene.active (sym c.root.ensures ∙ c.in-Some.is)
    (c.in_ok-active-in-Some.ensures ∙ (c.deref.ensures.value ∙ c.in_ok-frames-in-Some.ensures))
    (walked_none c.size.result p scene c.in_ok-walk_of-in-Some.field-0 size c.in_ok-walk_of-in-Some.ensures c.in-None-2.is)

pub returns : goal.returns
returns c =
    let p = c.args.self.now.plan in
    let scene : Scene = record { root = c.in-Some.root; active = c.in_ok-active-in-Some.active } in
    let size = c.size.ensures.value ∙ ap (λ (m : Machine). m.plan.size) c.self.view_is in
    let walked = walked_some c.size.result p scene c.in_ok-walk_of-in-Some.field-0 _ size c.in_ok-walk_of-in-Some.ensures c.in-Some-2.is in
    c.in_ok-hit_at-in-Some-2.ensures
    ∙ (ap (λ l. hit_at (record { root = scene.root; active = l }) c.args.point) (c.deref-in-Some-2.ensures.value ∙ (sym c.deref.ensures.value ∙ sym c.in_ok-active-in-Some.ensures))
    ∙ hit_scene p c.args.self.now.world c.args.point scene.root scene.active (sym c.root.ensures ∙ c.in-Some.is)
    (c.in_ok-active-in-Some.ensures ∙ (c.deref.ensures.value ∙ c.in_ok-frames-in-Some.ensures)) walked.1)
