use Rattle.std.proofs.Common.{◌≡◌, true, [], ◌∷◌, ◌++◌, length, ap, sym, ◌∙◌, arith, option_to_list}
use Rattle.vz_deps.specs.Tracking.{is_blocked}
use Rattle.vz_deadlines.specs.Timing.{waits}
use Rattle.vz_surface_manager.specs.Left_out.{blocked_without, due_without}
use Rattle.vz_surface_manager.proofs.Accepted_waits.{at_once, lacks_none, is_due, is_neither, waits_at_once, waits_later, active_at_once, active_later}
use Rattle.vz_surface_manager.proofs.Without.{got, blocked_fewer, blocked_one_more, none_among, not_blocked, not_due}
use Rattle.vz_surface_manager.proofs.waiting.Waiting.accepted.Goals.{then-is_empty-via-then-is_empty, then-is_empty-via-else-is_empty+then-a-tick}
use Rattle.vz_surface_manager.proofs.waiting.Waiting.accepted.Goals as goal

pub block-requires-clause-new : goal.block-requires-clause-new
block-requires-clause-new c =
    let fresh = none_among (is_blocked c.args.self.now.blocked c.args.a.sub) (waits c.args.self.now.due c.args.a.sub) c.requires.new in
    not_blocked (option_to_list c.args.a.replaced) c.args.a.sub c.self.inside.tracker.list c.drop_one.new.tracker.list c.drop_one.ensures.blocked (ap (λ v. is_blocked v.blocked c.args.a.sub) c.self.view_is ∙ fresh.0)

pub set-requires : goal.set-requires
set-requires c =
    let fresh = none_among (is_blocked c.args.self.now.blocked c.args.a.sub) (waits c.args.self.now.due c.args.a.sub) c.requires.new in
    not_due (option_to_list c.args.a.replaced) c.args.a.sub c.self.inside.deadlines.list c.drop_one.new.deadlines.list c.drop_one.ensures.due (ap (λ v. waits v.due c.args.a.sub) c.self.view_is ∙ fresh.1)

-- it becomes active at once
once : (c : goal.Joined-then-is_empty) → at_once c.args.lacked.now c.args.a.due c.args.tick ≡ true
once c =
    elim c.then-is_empty.branch [
      | then-is_empty-via-then-is_empty y ↦ lacks_none c.args.lacked.now c.args.a.due c.args.tick (sym c.is_empty.ensures ∙ y.if-is_empty.true)
      | then-is_empty-via-else-is_empty+then-a-tick y ↦ is_due c.args.lacked.now c.args.a.due c.args.tick y.if-a-tick.true
    ]

pub returns-then-is_empty-clause-waits : goal.returns-then-is_empty-clause-waits
returns-then-is_empty-clause-waits c w d local frame h r told =
    let gone = option_to_list c.args.a.replaced in
    waits_at_once w d local frame c.args.a c.args.tick c.args.lacked.now told c.args.self.now _ (once c) h r
    (c.drop_one.ensures.blocked ∙ ap (λ v. blocked_without gone v.blocked) c.self.view_is) (c.drop_one.ensures.due ∙ ap (λ v. due_without gone v.due) c.self.view_is)

pub returns-then-is_empty-clause-active : goal.returns-then-is_empty-clause-active
returns-then-is_empty-clause-active c w d local frame h none told =
    active_at_once w d local frame c.args.a c.args.tick c.args.lacked.now told (once c) none

pub returns-clause-waits : goal.returns-clause-waits
returns-clause-waits c w d local frame h r told =
    let gone = option_to_list c.args.a.replaced in
    let not_now = is_neither c.args.lacked.now c.args.a.due c.args.tick (sym c.is_empty.ensures ∙ c.if-is_empty.false) c.if-a-tick.false in
    waits_later w d local frame c.args.a c.args.tick c.args.lacked.now told c.args.self.now _ not_now h r
    (got _ _ _ c.unwrap.ensures c.block.ensures.list ∙ ap (λ l. l ++ record { sub = c.args.a.sub; unmet = c.args.lacked.now } ∷ []) (c.drop_one.ensures.blocked ∙ ap (λ v. blocked_without gone v.blocked) c.self.view_is))
    (got _ _ _ c.unwrap-2.ensures c.set.ensures.list ∙ ap (λ l. l ++ record { sub = c.args.a.sub; tick = c.args.a.due } ∷ []) (c.drop_one.ensures.due ∙ ap (λ v. due_without gone v.due) c.self.view_is))

pub returns-clause-active : goal.returns-clause-active
returns-clause-active c w d local frame h none told =
    let not_now = is_neither c.args.lacked.now c.args.a.due c.args.tick (sym c.is_empty.ensures ∙ c.if-is_empty.false) c.if-a-tick.false in
    active_later w d local frame c.args.a c.args.tick c.args.lacked.now told not_now none

pub returns-then-is_empty-clause-few : goal.returns-then-is_empty-clause-few
returns-then-is_empty-clause-few c =
    let few = blocked_fewer (option_to_list c.args.a.replaced) c.self.inside.tracker.list c.drop_one.new.tracker.list c.drop_one.ensures.blocked in
    let same = ap (λ v. length v.blocked) c.self.view_is in
    omega (arith, few, same)

pub returns-clause-few : goal.returns-clause-few
returns-clause-few c =
    let few = blocked_one_more (option_to_list c.args.a.replaced) _ c.self.inside.tracker.list c.drop_one.new.tracker.list c.block.new.self.list c.drop_one.ensures.blocked (got _ _ _ c.unwrap.ensures c.block.ensures.list) in
    let same = ap (λ v. length v.blocked) c.self.view_is in
    omega (arith, few, same)
