use Rattle.std.proofs.Common.{◌++◌, None, replicate, sym, ap, ◌∙◌, arith}
use Rattle.std.proofs.lemmas.List.{append-nil, map-append}
use Rattle.vz_deadlines.specs.declared.slots.Slot.{Slot}
use Rattle.vz_deadlines.specs.Slots.{held_in}
use Rattle.vz_deadlines.proofs.Freed.{filled_more}
use Rattle.vz_deadlines.proofs.slots.fill.Goals as goal

pub loop-init : goal.loop-init
loop-init c = (sym (append-nil (held_in c.args.slots.now.items)), omega (arith, c.requires))

pub push_reserved-requires : goal.push_reserved-requires
push_reserved-requires c = omega (arith, c.loop.invariant.1, c.loop-test.true)

pub loop-preserved : goal.loop-preserved
loop-preserved c = (
  filled_more (held_in c.args.slots.now.items) (held_in c.loop.slots.items) (held_in c.push_reserved.new.self.items) c.loop.counter c.loop.invariant.0
      (ap held_in c.push_reserved.ensures.items ∙ map-append (λ (s : Slot). s.due) c.loop.slots.items _),
  omega (arith, c.loop.invariant.1, c.push_reserved.ensures.len, c.push_reserved.ensures.capacity),
)

pub returns : goal.returns
returns c = c.loop.invariant.0 ∙ ap (λ n. held_in c.args.slots.now.items ++ replicate n None) (omega (arith, c.loop-test.false, c.loop.auto.counter-end))
