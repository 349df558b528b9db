use Rattle.std.proofs.Common.{sym, ap, ◌∙◌}
use Rattle.indexmap.specs.IndexMap.{get, spare as spare_of}
use Rattle.vz_ids.specs.Ids.{same_sub}
use Rattle.vz_deadlines.specs.Timing.{waits, without}
use Rattle.vz_deadlines.specs.Slots.{standing}
use Rattle.vz_deadlines.proofs.Dues.{cleared_waits}
use Rattle.vz_deadlines.proofs.Keeps.{freed_some, kept_freed, freed_is, kept_lost, lost_waits, untold_waits, without_none}
use Rattle.vz_deadlines.proofs.deadlines.Deadlines.clear.Goals as goal

-- it stands in the slot

pub overflow_sub-self : goal.overflow_sub-self
overflow_sub-self c =
    let inside = c.self.inside in
    freed_some inside.slots inside.used inside.waiting (spare_of inside.places) c.in-Some.place (get same_sub inside.places) c.args.s c.self.invariant (sym c.has.ensures ∙ c.if-has.true)

pub invariant_of-self : goal.invariant_of-self
invariant_of-self c =
    let inside = c.self.inside in
    kept_freed inside.slots c.free.new.self inside.used inside.waiting (spare_of inside.places) (spare_of c.swap_remove.new.self) c.in-Some.place (get same_sub inside.places) (get same_sub c.swap_remove.new.self) c.args.s c.self.invariant
    (sym c.has.ensures ∙ c.if-has.true) c.free.ensures c.swap_remove.ensures.updates.2 c.swap_remove.ensures.room.0

pub returns-then-has-clause-list : goal.returns-then-has-clause-list
returns-then-has-clause-list c =
    let inside = c.self.inside in
    freed_is inside.slots c.free.new.self inside.used inside.waiting (spare_of inside.places) c.in-Some.place (get same_sub inside.places) c.args.s c.self.invariant (sym c.has.ensures ∙ c.if-has.true) c.free.ensures
    ∙ ap (λ v. without c.args.s v.list) c.self.view_is

pub returns-then-has-clause-gone : goal.returns-then-has-clause-gone
returns-then-has-clause-gone c =
    let inside = c.self.inside in
    ap (λ l. waits l c.args.s) (freed_is inside.slots c.free.new.self inside.used inside.waiting (spare_of inside.places) c.in-Some.place (get same_sub inside.places) c.args.s c.self.invariant (sym c.has.ensures ∙ c.if-has.true) c.free.ensures)
    ∙ cleared_waits c.args.s (standing inside.slots)

-- another one stands there

pub invariant_of-self-else-has : goal.invariant_of-self-else-has
invariant_of-self-else-has c =
    let inside = c.self.inside in
    kept_lost inside.slots inside.used inside.waiting (spare_of inside.places) (spare_of c.swap_remove.new.self) c.in-Some.place (get same_sub inside.places) (get same_sub c.swap_remove.new.self) c.args.s c.self.invariant
    (sym c.in-Some.ensures.value) (sym c.has.ensures ∙ c.if-has.false) c.swap_remove.ensures.updates.2 c.swap_remove.ensures.room.0

pub returns-else-has-clause-list : goal.returns-else-has-clause-list
returns-else-has-clause-list c =
    let inside = c.self.inside in
    sym (without_none (standing inside.slots) c.args.s (lost_waits inside.slots inside.used inside.waiting (spare_of inside.places) c.in-Some.place (get same_sub inside.places) c.args.s c.self.invariant (sym c.in-Some.ensures.value) (sym c.has.ensures ∙ c.if-has.false)))
    ∙ ap (λ v. without c.args.s v.list) c.self.view_is

pub returns-else-has-clause-gone : goal.returns-else-has-clause-gone
returns-else-has-clause-gone c =
    let inside = c.self.inside in
    lost_waits inside.slots inside.used inside.waiting (spare_of inside.places) c.in-Some.place (get same_sub inside.places) c.args.s c.self.invariant (sym c.in-Some.ensures.value) (sym c.has.ensures ∙ c.if-has.false)

-- none is told

pub returns-in-None-clause-list : goal.returns-in-None-clause-list
returns-in-None-clause-list c =
    let inside = c.self.inside in
    sym (without_none (standing inside.slots) c.args.s (untold_waits inside.slots inside.used inside.waiting (spare_of inside.places) (get same_sub inside.places) c.args.s c.self.invariant (sym c.in-None.ensures.value)))
    ∙ ap (λ v. without c.args.s v.list) c.self.view_is

pub returns-in-None-clause-gone : goal.returns-in-None-clause-gone
returns-in-None-clause-gone c =
    let inside = c.self.inside in
    untold_waits inside.slots inside.used inside.waiting (spare_of inside.places) (get same_sub inside.places) c.args.s c.self.invariant (sym c.in-None.ensures.value)
