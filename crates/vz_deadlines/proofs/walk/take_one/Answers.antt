use Rattle.std.proofs.Common.{◌++◌, length, None, refl, sym, ap, ◌∙◌, arith}
use Rattle.std.proofs.lemmas.List.{append-nil}
use Rattle.std.proofs.lemmas.Bool.Decides.{nat_tests}
use Rattle.vz_deadlines.proofs.Stands.{due_here, later_here, none_here, one_here, from_itself, from_none}
use Rattle.vz_deadlines.proofs.walk.take_one.Goals as goal

pub returns-in-None-clause-out : goal.returns-in-None-clause-out
returns-in-None-clause-out c = sym (ap (λ l. c.args.out.now.list ++ l) (none_here c.args.tick c.args.slot.now.due c.in-None.is) ∙ append-nil c.args.out.now.list)

pub returns-in-None-clause-least : goal.returns-in-None-clause-least
returns-in-None-clause-least c = from_none 4294967295 c.args.slot.now.due c.in-None.is

pub returns-in-None-clause-room : goal.returns-in-None-clause-room
returns-in-None-clause-room c = omega (arith, ap length (none_here c.args.tick c.args.slot.now.due c.in-None.is))

pub returns-then-tick-due-clause-out : goal.returns-then-tick-due-clause-out
returns-then-tick-due-clause-out c =
    sym (ap (λ l. c.args.out.now.list ++ l) (later_here c.args.tick c.args.slot.now.due c.in-Some.due c.in-Some.is (grind (arith, nat_tests, c.if-tick-due.true))) ∙ append-nil c.args.out.now.list)

pub returns-then-tick-due-clause-least : goal.returns-then-tick-due-clause-least
returns-then-tick-due-clause-least c = from_itself c.args.slot.now.due c.in-Some.due c.in-Some.is

pub returns-then-tick-due-clause-room : goal.returns-then-tick-due-clause-room
returns-then-tick-due-clause-room c = omega (arith, ap length (later_here c.args.tick c.args.slot.now.due c.in-Some.due c.in-Some.is (grind (arith, nat_tests, c.if-tick-due.true))))

pub put-requires : goal.put-requires
put-requires c = omega (arith, c.requires, one_here c.args.slot.now.due c.in-Some.due c.in-Some.is)

pub returns-else-tick-due-clause-out : goal.returns-else-tick-due-clause-out
returns-else-tick-due-clause-out c =
    c.put.ensures.list ∙ ap (λ l. c.args.out.now.list ++ l) (sym (due_here c.args.tick c.args.slot.now.due c.in-Some.due c.in-Some.is (grind (arith, nat_tests, c.if-tick-due.false))))

pub returns-else-tick-due-clause-least : goal.returns-else-tick-due-clause-least
returns-else-tick-due-clause-least c = from_none 4294967295 None refl

pub returns-else-tick-due-clause-room : goal.returns-else-tick-due-clause-room
returns-else-tick-due-clause-room c =
    omega (arith, c.put.ensures.spare, ap length (due_here c.args.tick c.args.slot.now.due c.in-Some.due c.in-Some.is (grind (arith, nat_tests, c.if-tick-due.false))))
