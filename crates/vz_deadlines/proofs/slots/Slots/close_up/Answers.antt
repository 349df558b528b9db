use Rattle.std.proofs.Common.{◌≡◌, length, filter, is_some, vec_len, rules, ap, sym, subst, ◌∙◌, arith}
use Rattle.std.proofs.lemmas.Fn.{filter_same}
use Rattle.vz_deadlines.specs.declared.slots.Slot.{Slot}
use Rattle.vz_deadlines.specs.Slots.{held_in, AreBounded}
use Rattle.vz_deadlines.proofs.Freed.{unbounded_bounded, whole_written, held_long, closed_up}
use Rattle.vz_deadlines.proofs.slots.Slots.close_up.Goals as goal

pub invariant_of-self : goal.invariant_of-self
invariant_of-self c =
    subst (AreBounded c.self.inside.levels) (sym (whole_written c.fill.new.slots.items c.forget_ticks.new.slots c.fill.new.slots.len (held_long c.fill.new.slots.items c.forget_ticks.new.slots (c.forget_ticks.ensures.held ∙ ap held_in c.deref_mut.ensures.value)) (search rules)))
    (unbounded_bounded c.self.inside.levels c.forget_ticks.new.slots c.forget_ticks.ensures.unbounded)

pub returns : goal.returns
returns c =
    let before : vec_len c.self.inside.slots ≡ length c.self.inside.slots.items = search rules in
    let after : vec_len c.retain.new.self ≡ length c.retain.new.self.items = search rules in
    let kept : c.retain.new.self.items ≡ filter (λ (s : Slot). is_some s.due) c.self.inside.slots.items = filter_same _ _ _ (λ x b f' k. search rules) _ _ c.retain.ensures.filtered in
    ap held_in (whole_written c.fill.new.slots.items c.forget_ticks.new.slots c.fill.new.slots.len (held_long c.fill.new.slots.items c.forget_ticks.new.slots (c.forget_ticks.ensures.held ∙ ap held_in c.deref_mut.ensures.value)) (search rules))
    ∙ c.forget_ticks.ensures.held ∙ ap held_in c.deref_mut.ensures.value ∙ c.fill.ensures
    ∙ closed_up c.self.inside.slots.items c.retain.new.self.items c.args.self.now _ c.self.view_is kept (omega (arith, c.len-len.ensures, c.len.ensures, before, after))
