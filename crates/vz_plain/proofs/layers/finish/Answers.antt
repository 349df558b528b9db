use Rattle.std.proofs.Common.{sym, ◌∙◌}
use Rattle.vz_plain.proofs.Finishing.{base_ends, base_less, level_ends, level_less}
use Rattle.vz_plain.proofs.layers.finish.Goals as goal

pub returns-in-None-clause-ends : goal.returns-in-None-clause-ends
returns-in-None-clause-ends c = λ active last then.
    base_ends active c.args.base.now c.lay_on.new.under c.args.level c.args.stack.now.items c.pop.new.self.items last
    (sym c.args.stack.now.ok.0 ∙ c.in-None.ensures.cases.0) (sym c.pop.new.self.ok.0 ∙ c.in-None.ensures.cases.1) c.requires.done c.lay_on.ensures then

pub returns-in-None-clause-less : goal.returns-in-None-clause-less
returns-in-None-clause-less c =
    base_less c.args.level c.args.stack.now.items c.pop.new.self.items
    (sym c.args.stack.now.ok.0 ∙ c.in-None.ensures.cases.0) (sym c.pop.new.self.ok.0 ∙ c.in-None.ensures.cases.1) c.requires.done

pub returns-clause-ends : goal.returns-clause-ends
returns-clause-ends c = λ active last then.
    level_ends c.args.base.now c.pop.new.self.items c.args.stack.now.items c.push.new.self.items c.args.level c.in-Some.below c.take.new.self c.in-Some.ensures.items c.in_ok-push-in-Some.ensures.items c.take.ensures.same active last
    c.requires.done c.take.ensures.joined then

pub returns-clause-less : goal.returns-clause-less
returns-clause-less c =
    level_less c.args.base.now c.pop.new.self.items c.args.stack.now.items c.push.new.self.items c.args.level c.in-Some.below c.take.new.self c.in-Some.ensures.items c.in_ok-push-in-Some.ensures.items c.take.ensures.same
    c.requires.done
