use Rattle.std.proofs.Common.{◌≡◌, ◌++◌, length, sym, ap, ◌∙◌}
use Rattle.std.proofs.lemmas.List.{append-nil}
use Rattle.vz_rules.specs.Walk.{too_much}
use Rattle.vz_scene.specs.Walking.{stack_walked}
use Rattle.vz_scene.proofs.Stacking.{too_much_front, stack_empty, stack_pop, turn_is_less}
use Rattle.vz_scene.proofs.walk.run.Goals as goal

pub quads-preserved : goal.quads-preserved
quads-preserved c = λ all e.
    c.quads.invariant all e
    ∙ (ap (λ l. c.quads.walked ++ l) (stack_pop c.args.active.now c.quads.stack.items c.pop.new.self.items c.in-Some.cursor c.in-Some.ensures.items) ∙ sym c.in_ok-advance-in-Some.ensures.walked)

pub quads-smaller : goal.quads-smaller
quads-smaller c =
    let now = c.in_ok-advance-in-Some.ensures in
    turn_is_less c.quads.walked c.advance.new.walked c.quads.stack.items c.pop.new.self.items c.advance.new.stack.items c.in-Some.cursor (sym c.is_too_much.ensures ∙ c.quads-test.true) c.in-Some.ensures.items
    now.stack now.weight

pub returns : goal.returns
returns c = λ all e.
    ap too_much (c.quads.invariant all e)
    ∙ too_much_front c.quads.walked (stack_walked c.args.active.now c.quads.stack.items) (sym c.is_too_much.ensures ∙ c.quads-test.false)

pub returns-in-None : goal.returns-in-None
returns-in-None c = λ all e.
    let none : length c.quads.stack.items ≡ 0 = sym c.quads.stack.ok.0 ∙ c.in-None.ensures.cases.0 in
    let same : all ≡ c.quads.walked =
    c.quads.invariant all e ∙ (ap (λ l. c.quads.walked ++ l) (stack_empty c.args.active.now c.quads.stack.items none) ∙ append-nil c.quads.walked) in
    (sym same, ap too_much same ∙ (sym c.is_too_much.ensures ∙ c.quads-test.true))
