use Rattle.std.proofs.Common.{rules, ◌≡◌, true, false}
use Rattle.vz_check.specs.Judged.{is_drawing}
use Rattle.vz_check.proofs.Stepping.{entry_is, drawing_is, no_picture}
use Rattle.vz_check.proofs.step.take.Goals as goal

pub returns-then-is_drawing-clause-entry : goal.returns-then-is_drawing-clause-entry
returns-then-is_drawing-clause-entry c =
    let draw : is_drawing c.args.event ≡ true = search rules in
    drawing_is c.args.machine.now.plan c.args.machine.now.world _ c.args.event c.in_ok-reply.reply c.in_ok-reply.effects draw c.in_ok-reply.ensures.step

pub returns-clause-entry : goal.returns-clause-entry
returns-clause-entry c = entry_is c.args.machine.now.plan c.args.machine.now.world _ c.args.event c.in_ok-reply-2.reply c.in_ok-reply-2.effects c.in_ok-reply-2.ensures.step

pub returns-clause-picture : goal.returns-clause-picture
returns-clause-picture c =
    let other : is_drawing c.args.event ≡ false = search rules in
    no_picture c.args.machine.now.plan c.args.machine.now.world _ c.args.event c.in_ok-reply-2.reply c.in_ok-reply-2.effects other c.in_ok-reply-2.ensures.step
