use Rattle.std.proofs.Common.{refl, ap, ◌∙◌}
use Rattle.vz_deadlines.specs.Slots.{held_in, are_unbounded}
use Rattle.vz_deadlines.proofs.Freed.{forgotten_next, forgotten_all, forgotten_held, forgotten_ticks}
use Rattle.vz_deadlines.proofs.slots.forget_ticks.Goals as goal

pub loop-slot-preserved : goal.loop-slot-preserved
loop-slot-preserved c = forgotten_next c.args.slots.now c.loop-slot.slot-items c.loop-slot.slot-index _ _ c.loop-slot-test.true c.loop-slot.invariant refl

pub returns-clause-held : goal.returns-clause-held
returns-clause-held c =
    ap held_in (forgotten_all c.args.slots.now c.loop-slot.slot-items c.loop-slot.slot-index c.loop-slot-test.false c.loop-slot.invariant) ∙ forgotten_held c.args.slots.now

pub returns-clause-unbounded : goal.returns-clause-unbounded
returns-clause-unbounded c =
    ap are_unbounded (forgotten_all c.args.slots.now c.loop-slot.slot-items c.loop-slot.slot-index c.loop-slot-test.false c.loop-slot.invariant) ∙ forgotten_ticks c.args.slots.now
