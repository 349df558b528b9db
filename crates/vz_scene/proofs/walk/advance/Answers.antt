use Rattle.std.proofs.Common.{arith}
use Rattle.vz_scene.proofs.Stacking.{advanced, pushed_few}
use Rattle.vz_scene.proofs.walk.advance.Goals as goal

pub returns-in_ok-push_some-in-Some-clause-walked : goal.returns-in_ok-push_some-in-Some-clause-walked
returns-in_ok-push_some-in-Some-clause-walked c =
    let active = c.args.active.now in
    advanced active c.args.cursor c.go_on.new.self c.args.stack.now.items c.push.new.self.items _ _ _ c.args.walked.now c.quad.new.walked
    (c.in-Some.ensures.walked active) c.go_on.ensures c.in_ok-inner-in-Some.ensures.walked c.in_ok-push-in-Some.ensures.items c.in_ok-push_some-in-Some.ensures

pub returns-in_ok-push_some-in-Some-clause-stack : goal.returns-in_ok-push_some-in-Some-clause-stack
returns-in_ok-push_some-in-Some-clause-stack c =
    let few = pushed_few c.args.stack.now.items c.push.new.self.items c.push_some.new.stack.items c.go_on.new.self c.in_ok-inner-in-Some.inner c.in_ok-push-in-Some.ensures.items c.in_ok-push_some-in-Some.ensures in
    let one = c.in_ok-inner-in-Some.ensures.weight in
    omega arith
