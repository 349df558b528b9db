use Rattle.std.proofs.Common.{rules, ap, sym, subst, ◌∙◌}
use Rattle.vz_deadlines.specs.Slots.{held_in, AreBounded}
use Rattle.vz_deadlines.proofs.Freed.{unbounded_bounded, whole_written, held_long}
use Rattle.vz_deadlines.proofs.slots.Slots.grow.Goals as goal

pub invariant_of-self-2 : goal.invariant_of-self-2
invariant_of-self-2 c =
    subst (AreBounded c.levels_of-self-inside.result) (sym (whole_written c.fill.new.slots.items c.forget_ticks.new.slots c.fill.new.slots.len (held_long c.fill.new.slots.items c.forget_ticks.new.slots (c.forget_ticks.ensures.held ∙ ap held_in c.deref_mut.ensures.value)) (search rules)))
    (unbounded_bounded c.levels_of-self-inside.result c.forget_ticks.new.slots c.forget_ticks.ensures.unbounded)
