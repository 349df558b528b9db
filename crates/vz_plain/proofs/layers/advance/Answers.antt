use Rattle.std.proofs.Common.{Option, subst}
use Rattle.vz_plain.specs.Going.{GoesOn}
use Rattle.vz_plain.specs.Levels.{Level}
use Rattle.vz_plain.proofs.Advancing.{still_ends, pushed_ends}
use Rattle.vz_plain.proofs.layers.advance.Goals as goal

pub returns-in_ok-finish-in-None-clause-ends : goal.returns-in_ok-finish-in-None-clause-ends
returns-in_ok-finish-in-None-clause-ends c = λ last then.
    still_ends c.args.active.now c.args.base.now c.args.stack.now.items c.args.level c.next_level.new.self
    (subst (λ (o : Option Level). GoesOn c.args.active.now c.args.level c.next_level.new.self o) c.in-None.is c.in_ok-next_level.ensures.goes) last
    (c.in_ok-finish-in-None.ensures.ends c.args.active.now last then)

pub returns-in_ok-push-in-Some-2-clause-ends : goal.returns-in_ok-push-in-Some-2-clause-ends
returns-in_ok-push-in-Some-2-clause-ends c = λ last then.
    pushed_ends c.args.active.now c.args.base.now c.args.stack.now.items c.push.new.self.items c.push-in-Some.new.self.items c.args.level c.next_level.new.self c.in-Some.inner
    (subst (λ (o : Option Level). GoesOn c.args.active.now c.args.level c.next_level.new.self o) c.in-Some.is c.in_ok-next_level.ensures.goes)
    c.in_ok-push-in-Some.ensures.items c.in_ok-push-in-Some-2.ensures.items last then
