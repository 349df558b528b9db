use Rattle.std.proofs.Common.{◌∙◌}
use Rattle.vz_slow.proofs.Answering.{relation_refused, relation_joined}
use Rattle.vz_slow.proofs.world.World.hierarchy.Goals as goal

pub returns-in_ok-refuse-in-Some : goal.returns-in_ok-refuse-in-Some
returns-in_ok-refuse-in-Some c = λ x h e.
    c.in_ok-refuse-in-Some.ensures.value x h
    ∙ relation_refused c.args.self.now x c.args.parent c.args.child c.in-Some.refusal c.in_ok-refusal.field-0 (c.in_ok-refusal.ensures x e) c.in-Some.is

pub returns-in_ok-relate-in-None : goal.returns-in_ok-relate-in-None
returns-in_ok-relate-in-None c = λ x h e.
    relation_joined c.args.self.now c.change.new.self c.relate.new.self x c.args.parent c.args.child c.in_ok-refusal.field-0 (c.in_ok-refusal.ensures x e) c.in-None.is
    (c.in_ok-change-in-None.ensures x h) c.in_ok-relate-in-None.ensures
