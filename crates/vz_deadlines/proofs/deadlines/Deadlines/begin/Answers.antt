use Rattle.std.proofs.Common.{cond, None, ap, ◌∙◌}
use Rattle.indexmap.specs.IndexMap.{get, spare as spare_of}
use Rattle.vz_ids.specs.Ids.{same_sub}
use Rattle.vz_deadlines.specs.Timing.{due_at, left_at}
use Rattle.vz_deadlines.specs.Slots.{standing}
use Rattle.vz_deadlines.proofs.Stands.{left_standing}
use Rattle.vz_deadlines.proofs.Begun.{new_ones, begun_fits, kept_begun}
use Rattle.vz_deadlines.proofs.deadlines.Deadlines.begin.Goals as goal

pub overflow_sub-self : goal.overflow_sub-self
overflow_sub-self c =
    begun_fits c.args.tick c.self.inside.waiting c.self.inside.used (spare_of c.self.inside.places) c.self.inside.slots (get same_sub c.self.inside.places) _ c.self.invariant
    (new_ones c.args.out.now.list c.take_due.new.out.list c.as_slice-before.result.now c.as_slice.result.now (due_at c.args.tick (standing c.self.inside.slots)) c.as_slice-before.ensures c.as_slice.ensures c.take_due.ensures.out)

pub invariant_of-self : goal.invariant_of-self
invariant_of-self c =
    kept_begun c.args.tick c.self.inside.slots c.take_due.new.self c.self.inside.used c.self.inside.waiting (spare_of c.self.inside.places) (spare_of c.forget_all.new.places) (get same_sub c.self.inside.places) (get same_sub c.forget_all.new.places) _
    c.self.invariant c.take_due.ensures.slots
    (new_ones c.args.out.now.list c.take_due.new.out.list c.as_slice-before.result.now c.as_slice.result.now (due_at c.args.tick (standing c.self.inside.slots)) c.as_slice-before.ensures c.as_slice.ensures c.take_due.ensures.out)
    (λ t h. c.forget_all.ensures.told t ∙ ap (λ b. cond b None (get same_sub c.self.inside.places t)) h) c.forget_all.ensures.spare

pub returns-clause-list : goal.returns-clause-list
returns-clause-list c = ap standing c.take_due.ensures.slots ∙ left_standing c.args.tick c.self.inside.slots ∙ ap (λ v. left_at c.args.tick v.list) c.self.view_is
