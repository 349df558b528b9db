use Rattle.std.proofs.Common.{None, slice_set, ap, ◌∙◌}
use Rattle.std.proofs.lemmas.List.{map-set}
use Rattle.vz_deadlines.specs.declared.slots.Slot.{Slot}
use Rattle.vz_deadlines.proofs.Freed.{freed_bounded}
use Rattle.vz_deadlines.proofs.slots.Slots.free.Goals as goal

pub invariant_of-self : goal.invariant_of-self
invariant_of-self c = freed_bounded c.self.inside.levels c.self.inside.slots.items c.args.place c.index_mut.result.now c.index_mut.ensures.value c.self.invariant

pub returns : goal.returns
returns c = map-set (λ (s : Slot). s.due) c.self.inside.slots.items c.args.place _ ∙ ap (λ l. slice_set l c.args.place None) c.self.view_is
