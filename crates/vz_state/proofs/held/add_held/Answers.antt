use Rattle.std.proofs.Common.{sym, ap, ◌∙◌}
use Rattle.vz_rules.specs.World.{Client}
use Rattle.vz_rules.specs.Log.{held_resource}
use Rattle.vz_state.proofs.Rooming.{none_more, some_more}
use Rattle.vz_state.proofs.held.add_held.Goals as goal

pub loop-resource-preserved-in_default : goal.loop-resource-preserved-in_default
loop-resource-preserved-in_default c =
    let x = c.resource-item.result in
    let f = held_resource c.args.client.now.number in
    let held = c.held.ensures ∙ ap (λ (a : Client). held_resource a.number x) c.client.view_is in
    none_more f c.args.all.now.items c.loop-resource.all.items _ c.loop-resource.resource-index x c.loop-resource-test.true c.resource-item.is (sym held ∙ c.in_default.is) c.loop-resource.invariant

pub loop-resource-preserved : goal.loop-resource-preserved
loop-resource-preserved c =
    let x = c.resource-item.result in
    let f = held_resource c.args.client.now.number in
    let held = c.held.ensures ∙ ap (λ (a : Client). held_resource a.number x) c.client.view_is in
    some_more f c.args.all.now.items c.loop-resource.all.items c.push.new.self.items _ c.loop-resource.resource-index x c.in-Some.returned c.loop-resource-test.true c.resource-item.is (sym held ∙ c.in-Some.is)
    c.loop-resource.invariant c.in_ok-push.ensures.items
