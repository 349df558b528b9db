use Rattle.std.proofs.Common.{◌/◌, length, refl, arith}
use Rattle.std.proofs.lemmas.List.{map-set}
use Rattle.std.proofs.lemmas.Bool.Decides.{nat_tests}
use Rattle.vz_deadlines.specs.declared.slots.Slot.{Slot}
use Rattle.vz_deadlines.proofs.Halves.{bounded_none, put_here, set_left, set_right, put_there, written_long}
use Rattle.vz_deadlines.proofs.walk.+put_in.Goals as goal

pub returns-then-levels-eq0-clause-held : goal.returns-then-levels-eq0-clause-held
returns-then-levels-eq0-clause-held t c = map-set (λ (s : Slot). s.due) c.args.slots.now c.args.place _

pub returns-then-levels-eq0-clause-bounded : goal.returns-then-levels-eq0-clause-bounded
returns-then-levels-eq0-clause-bounded t c _ = bounded_none c.args.levels _ (grind (arith, nat_tests, c.if-levels-eq0.true))

pub returns-then-place-eq0-clause-bounded : goal.returns-then-place-eq0-clause-bounded
returns-then-place-eq0-clause-bounded t c bounded =
    put_here c.args.levels c.in-Some.first.now c.args.slots.now c.in-Some.rest.now c.args.due c.smaller-first.result (grind (arith, nat_tests, c.if-levels-eq0.false)) c.in-Some.ensures.cases.0 c.smaller-first.ensures bounded

pub returns-then-place-half-clause-held : goal.returns-then-place-half-clause-held
returns-then-place-half-clause-held t c =
    set_left c.args.slots.now c.in-Some.first.now c.in-Some.rest.now c.split_at_mut-left.result.0.now c.split_at_mut-left.result.1.now c.put_in.new.slots c.args.place c.args.due
    c.in-Some.ensures.cases.0 c.split_at_mut-left.ensures.value (grind (arith, nat_tests, c.if-place-eq0.false)) (grind (arith, nat_tests, c.if-place-half.true, c.split_at_mut-left.ensures.front_len)) c.put_in.ensures.held

pub returns-else-place-half-clause-held : goal.returns-else-place-half-clause-held
returns-else-place-half-clause-held t c =
    set_right c.args.slots.now c.in-Some.first.now c.in-Some.rest.now c.split_at_mut-left.result.0.now c.split_at_mut-left.result.1.now c.put_in-else-place-half.new.slots c.args.place (length c.in-Some.rest.now / 2) c.args.due
    c.in-Some.ensures.cases.0 c.split_at_mut-left.ensures.value (grind (arith, nat_tests, c.if-place-eq0.false)) c.split_at_mut-left.ensures.front_len (grind (arith, nat_tests, c.if-place-half.false)) c.put_in-else-place-half.ensures.held

pub returns-then-place-half-clause-bounded : goal.returns-then-place-half-clause-bounded
returns-then-place-half-clause-bounded t c bounded =
    put_there c.args.levels c.in-Some.first.now c.args.slots.now c.in-Some.rest.now c.split_at_mut-left.result.0.now c.split_at_mut-left.result.1.now c.put_in.new.slots c.split_at_mut-left.result.1.now c.args.place c.args.due c.smaller-first.result
    (grind (arith, nat_tests, c.if-levels-eq0.false)) c.in-Some.ensures.cases.0 c.split_at_mut-left.ensures.front c.split_at_mut-left.ensures.back c.smaller-first.ensures (returns-then-place-half-clause-held t c)
    (written_long c.split_at_mut-left.result.0.now c.put_in.new.slots _ _ c.put_in.ensures.held) refl c.put_in.ensures.bounded (λ h. h) bounded

pub returns-else-place-half-clause-bounded : goal.returns-else-place-half-clause-bounded
returns-else-place-half-clause-bounded t c bounded =
    put_there c.args.levels c.in-Some.first.now c.args.slots.now c.in-Some.rest.now c.split_at_mut-left.result.0.now c.split_at_mut-left.result.1.now c.split_at_mut-left.result.0.now c.put_in-else-place-half.new.slots c.args.place c.args.due c.smaller-first.result
    (grind (arith, nat_tests, c.if-levels-eq0.false)) c.in-Some.ensures.cases.0 c.split_at_mut-left.ensures.front c.split_at_mut-left.ensures.back c.smaller-first.ensures (returns-else-place-half-clause-held t c)
    refl (written_long c.split_at_mut-left.result.1.now c.put_in-else-place-half.new.slots _ _ c.put_in-else-place-half.ensures.held) (λ h. h) c.put_in-else-place-half.ensures.bounded bounded
