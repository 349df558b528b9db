use Rattle.std.proofs.Common.{is_some, sym, ap, ◌∙◌}
use Rattle.std.specs.Option.{option_copied}
use Rattle.vz_rules.specs.World.{World}
use Rattle.vz_slow.proofs.Drawing.{draw_busy, draw_unnamed, draw_nothing, draw_scene_is}
use Rattle.vz_slow.proofs.world.World.draw.Goals as goal

pub returns-then-is_some : goal.returns-then-is_some
returns-then-is_some c = draw_busy c.args.plan.now c.args.self.now (sym (ap (λ (u : World). is_some u.in_flight) c.self.view_is) ∙ (sym c.is_some.ensures ∙ c.if-is_some.true))

pub returns-in-None : goal.returns-in-None
returns-in-None c =
    draw_unnamed c.args.plan.now c.args.self.now (sym (ap (λ (u : World). is_some u.in_flight) c.self.view_is) ∙ (sym c.is_some.ensures ∙ c.if-is_some.false))
    (sym (ap (λ (u : World). u.root) c.self.view_is) ∙ c.in-None.is)

pub returns-in-None-frame_on : goal.returns-in-None-frame_on
returns-in-None-frame_on c =
    draw_nothing c.args.plan.now c.args.self.now c.in-Some.root c.in_ok-active-in-Some.active c.deref.result.now _
    (sym (ap (λ (u : World). is_some u.in_flight) c.self.view_is) ∙ (sym c.is_some.ensures ∙ c.if-is_some.false))
    (sym (ap (λ (u : World). u.root) c.self.view_is) ∙ c.in-Some.is) (c.in_ok-active-in-Some.ensures ∙ (c.deref-in-Some.ensures.value ∙ c.in_ok-frames-in-Some.ensures))
    (c.deref.ensures.value ∙ ap (λ (u : World). u.subs) c.self.view_is) c.frame_on.ensures (ap option_copied c.in-None-frame_on.is)

pub returns : goal.returns
returns c =
    c.in_ok-draw_scene-in-Some-frame_on.ensures
    ∙ draw_scene_is c.args.plan.now c.args.self.now c.in-Some.root c.in_ok-active-in-Some.active c.deref.result.now _ c.in-Some-frame_on.field-0.now
    (sym (ap (λ (u : World). is_some u.in_flight) c.self.view_is) ∙ (sym c.is_some.ensures ∙ c.if-is_some.false))
    (sym (ap (λ (u : World). u.root) c.self.view_is) ∙ c.in-Some.is) (c.in_ok-active-in-Some.ensures ∙ (c.deref-in-Some.ensures.value ∙ c.in_ok-frames-in-Some.ensures))
    (c.deref.ensures.value ∙ ap (λ (u : World). u.subs) c.self.view_is) c.frame_on.ensures
    (ap option_copied c.in-Some-frame_on.is)
