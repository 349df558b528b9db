use Rattle.std.proofs.Common.{Option, None, sym, subst}
use Rattle.vz_plain.specs.Levels.{Level}
use Rattle.vz_plain.specs.Going.{GoesOn}
use Rattle.vz_plain.proofs.Advancing.{at_first, goes_on, fewer}
use Rattle.vz_plain.proofs.level.Level.next_level.Goals as goal

pub quads-init : goal.quads-init
quads-init c = at_first c.args.active.now c.args.self.now

pub returns-in-Some-2-clause-goes : goal.returns-in-Some-2-clause-goes
returns-in-Some-2-clause-goes c =
    subst (λ (o : Option Level). GoesOn c.args.active.now c.args.self.now c.quad.new.self o) c.in-Some-2.is
    (goes_on c.args.active.now c.args.self.now c.quads.self c.next_quad.new.self c.quad.new.self c.in-Some.quad.now c.in-Some.ensures.0 c.in-Some.ensures.1 c.quad.ensures.same c.quads.invariant c.in_ok-inner.field-0
    c.in_ok-inner.ensures.painted c.in_ok-inner.ensures.lower)

pub quads-smaller : goal.quads-smaller
quads-smaller c =
    fewer c.args.active.now c.args.self.now c.quads.self c.next_quad.new.self c.quad.new.self c.in-Some.quad.now c.in-Some.ensures.0 c.in-Some.ensures.1 c.quad.ensures.same c.quads.invariant

pub quads-preserved : goal.quads-preserved
quads-preserved c =
    subst (λ (o : Option Level). GoesOn c.args.active.now c.args.self.now c.quad.new.self o) c.in_default-2.is
    (goes_on c.args.active.now c.args.self.now c.quads.self c.next_quad.new.self c.quad.new.self c.in-Some.quad.now c.in-Some.ensures.0 c.in-Some.ensures.1 c.quad.ensures.same c.quads.invariant c.in_ok-inner.field-0
    c.in_ok-inner.ensures.painted c.in_ok-inner.ensures.lower)

pub returns-clause-goes : goal.returns-clause-goes
returns-clause-goes c = subst (λ (l : Level). GoesOn c.args.active.now c.args.self.now l None) (sym c.in_default.ensures.1) c.quads.invariant
