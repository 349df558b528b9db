use Rattle.std.proofs.Common.{[], ◌∷◌, ◌++◌, length, IsTrue, subst, sym, ap, ◌∙◌, arith}
use Rattle.std.proofs.lemmas.List.{append-nil}
use Rattle.std.proofs.Math.Nat.{le_trans}
use Rattle.std.proofs.lemmas.Bool.Decides.{nat_tests}
use Rattle.vz_deadlines.specs.Slots.{standing, held_in, are_from}
use Rattle.vz_deadlines.proofs.Halves.{bounded_none, half_kept, from_first, joined, parted}
use Rattle.vz_deadlines.proofs.Stands.{due_long, standing_first, standing_parts, put_parts, from_parts, skipped_due, skipped_left, due_empty, from_empty, left_long, held_each, due_fits}
use Rattle.vz_deadlines.proofs.walk.+take_due.Goals as goal

-- a few slots are looked at each

pub returns-then-levels-eq0-clause-held : goal.returns-then-levels-eq0-clause-held
returns-then-levels-eq0-clause-held t c = held_each c.args.tick c.args.slots.now c.take_each.new.slots c.take_each.ensures.slots

pub returns-then-levels-eq0-clause-bounded : goal.returns-then-levels-eq0-clause-bounded
returns-then-levels-eq0-clause-bounded t c = bounded_none c.args.levels _ (grind (arith, nat_tests, c.if-levels-eq0.true))

-- there are none

pub returns-in-None-clause-out : goal.returns-in-None-clause-out
returns-in-None-clause-out t c = sym (ap (λ l. c.args.out.now.list ++ l) (due_empty c.args.tick c.args.slots.now c.in-None.ensures.cases) ∙ append-nil c.args.out.now.list)

pub returns-in-None-clause-least : goal.returns-in-None-clause-least
returns-in-None-clause-least t c = from_empty 4294967295 c.args.slots.now c.in-None.ensures.cases

pub returns-in-None-clause-room : goal.returns-in-None-clause-room
returns-in-None-clause-room t c = omega (arith, ap length (due_empty c.args.tick c.args.slots.now c.in-None.ensures.cases))

-- none is due

pub returns-then-tick-first-clause-out : goal.returns-then-tick-first-clause-out
returns-then-tick-first-clause-out t c =
    let from = from_first c.args.levels c.in-Some.first.now c.args.slots.now c.in-Some.rest.now (grind (arith, nat_tests, c.if-levels-eq0.false)) c.in-Some.ensures.cases.0 c.requires.bounded in
    sym (ap (λ l. c.args.out.now.list ++ l) (skipped_due c.args.tick c.in-Some.first.now.soonest (held_in c.args.slots.now) c.if-tick-first.true from) ∙ append-nil c.args.out.now.list)

pub returns-then-tick-first-clause-held : goal.returns-then-tick-first-clause-held
returns-then-tick-first-clause-held t c =
    let from = from_first c.args.levels c.in-Some.first.now c.args.slots.now c.in-Some.rest.now (grind (arith, nat_tests, c.if-levels-eq0.false)) c.in-Some.ensures.cases.0 c.requires.bounded in
    ap held_in (sym c.in-Some.ensures.cases.0) ∙ sym (skipped_left c.args.tick c.in-Some.first.now.soonest (held_in c.args.slots.now) c.if-tick-first.true from)

pub returns-then-tick-first-clause-least : goal.returns-then-tick-first-clause-least
returns-then-tick-first-clause-least t c =
    let from = from_first c.args.levels c.in-Some.first.now c.args.slots.now c.in-Some.rest.now (grind (arith, nat_tests, c.if-levels-eq0.false)) c.in-Some.ensures.cases.0 c.requires.bounded in
    subst (λ l. IsTrue (are_from c.in-Some.first.now.soonest (held_in l))) c.in-Some.ensures.cases.0 from

pub returns-then-tick-first-clause-room : goal.returns-then-tick-first-clause-room
returns-then-tick-first-clause-room t c =
    let from = from_first c.args.levels c.in-Some.first.now c.args.slots.now c.in-Some.rest.now (grind (arith, nat_tests, c.if-levels-eq0.false)) c.in-Some.ensures.cases.0 c.requires.bounded in
    omega (arith, ap length (skipped_due c.args.tick c.in-Some.first.now.soonest (held_in c.args.slots.now) c.if-tick-first.true from))

-- the first one, and then each half

pub take_one-of_first-requires : goal.take_one-of_first-requires
take_one-of_first-requires t c =
    let whole = standing_first c.args.slots.now c.in-Some.first.now c.in-Some.rest.now c.in-Some.ensures.cases.0 in
    le_trans whole c.requires.room

pub take_due-of_left-requires : goal.take_due-of_left-requires
take_due-of_left-requires t c =
    let s = c.in-Some.first.now in
    let left = c.split_at_mut-left.result.0.now in
    let right = c.split_at_mut-left.result.1.now in
    let parts = parted c.args.levels s c.args.slots.now c.in-Some.rest.now left right (grind (arith, nat_tests, c.if-levels-eq0.false)) c.in-Some.ensures.cases.0 c.split_at_mut-left.ensures.front c.split_at_mut-left.ensures.back c.requires.bounded in
    let whole = standing_parts c.args.slots.now s c.in-Some.rest.now left right c.in-Some.ensures.cases.0 c.split_at_mut-left.ensures.value in
    let few = due_fits c.args.tick (standing (s.due ∷ [])) in
    (omega (arith, c.decreases, c.if-levels-eq0.false), (parts.1, omega (arith, whole, few, c.requires.room, c.take_one-of_first.ensures.room)))

pub take_due-of_right-requires : goal.take_due-of_right-requires
take_due-of_right-requires t c =
    let s = c.in-Some.first.now in
    let left = c.split_at_mut-left.result.0.now in
    let right = c.split_at_mut-left.result.1.now in
    let parts = parted c.args.levels s c.args.slots.now c.in-Some.rest.now left right (grind (arith, nat_tests, c.if-levels-eq0.false)) c.in-Some.ensures.cases.0 c.split_at_mut-left.ensures.front c.split_at_mut-left.ensures.back c.requires.bounded in
    let whole = standing_parts c.args.slots.now s c.in-Some.rest.now left right c.in-Some.ensures.cases.0 c.split_at_mut-left.ensures.value in
    let few = due_fits c.args.tick (standing (s.due ∷ [])) in
    let few' = due_fits c.args.tick (standing (held_in left)) in
    (omega (arith, c.decreases, c.if-levels-eq0.false), (parts.2, omega (arith, whole, few, few', c.requires.room, c.take_one-of_first.ensures.room, c.take_due-of_left.ensures.room)))

pub returns-else-tick-first-clause-out : goal.returns-else-tick-first-clause-out
returns-else-tick-first-clause-out t c =
    put_parts c.args.tick c.args.slots.now c.in-Some.first.now c.in-Some.rest.now c.split_at_mut-left.result.0.now c.split_at_mut-left.result.1.now c.args.out.now.list c.take_one-of_first.new.out.list c.take_due-of_left.new.out.list c.take_due-of_right.new.out.list
    c.in-Some.ensures.cases.0 c.split_at_mut-left.ensures.value c.take_one-of_first.ensures.out c.take_due-of_left.ensures.out c.take_due-of_right.ensures.out

pub returns-else-tick-first-clause-room : goal.returns-else-tick-first-clause-room
returns-else-tick-first-clause-room t c =
    let whole = due_long c.args.tick c.args.slots.now c.in-Some.first.now c.in-Some.rest.now c.split_at_mut-left.result.0.now c.split_at_mut-left.result.1.now c.in-Some.ensures.cases.0 c.split_at_mut-left.ensures.value in
    omega (arith, whole, c.take_one-of_first.ensures.room, c.take_due-of_left.ensures.room, c.take_due-of_right.ensures.room)

pub returns-else-tick-first-clause-least : goal.returns-else-tick-first-clause-least
returns-else-tick-first-clause-least t c =
    from_parts c.smaller-least.result c.take_one-of_first.new.slot.due c.take_due-of_left.new.slots c.take_due-of_right.new.slots c.take_one-of_first.result c.take_due-of_left.result c.take_due-of_right.result
    (omega (arith, c.smaller.ensures, c.smaller-least.ensures)) (omega (arith, c.smaller.ensures, c.smaller-least.ensures)) (omega (arith, c.smaller.ensures, c.smaller-least.ensures))
    c.take_one-of_first.ensures.least c.take_due-of_left.ensures.least c.take_due-of_right.ensures.least

pub returns-else-tick-first-clause-bounded : goal.returns-else-tick-first-clause-bounded
returns-else-tick-first-clause-bounded t c =
    let left = c.split_at_mut-left.result.0.now in
    let right = c.split_at_mut-left.result.1.now in
    joined c.args.levels (record { due = c.take_one-of_first.new.slot.due; soonest = c.smaller-least.result }) c.take_due-of_left.new.slots c.take_due-of_right.new.slots (grind (arith, nat_tests, c.if-levels-eq0.false))
    (half_kept c.in-Some.rest.now left right c.take_due-of_left.new.slots c.take_due-of_right.new.slots c.split_at_mut-left.ensures.front c.split_at_mut-left.ensures.back
    (left_long c.args.tick left c.take_due-of_left.new.slots c.take_due-of_left.ensures.held) (left_long c.args.tick right c.take_due-of_right.new.slots c.take_due-of_right.ensures.held))
    (returns-else-tick-first-clause-least t c) c.take_due-of_left.ensures.bounded c.take_due-of_right.ensures.bounded
