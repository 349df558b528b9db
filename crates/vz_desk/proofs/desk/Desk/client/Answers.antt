use Rattle.std.proofs.Common.{subst}
use Rattle.vz_desk.specs.Answers.{Tried}
use Rattle.vz_desk.proofs.Calling.{answered_on}
use Rattle.vz_desk.proofs.desk.Desk.client.Goals as goal

pub returns-in-Some-2-clause-ok : goal.returns-in-Some-2-clause-ok
returns-in-Some-2-clause-ok g c =
    answered_on c.args.end.now c.loop.end c.take.new.end c.in-Some-2.answer c.loop.invariant.same c.loop.invariant.none (subst (Tried c.loop.end c.take.new.end) c.in-Some-2.is c.in_ok-answer.ensures.tried)
