use Rattle.std.proofs.Common.{◌≡◌, ◌+◌, arith}
use Rattle.vz_threads.specs.{Crews.WorksOn, Told.anything}
use Rattle.vz_threads.proofs.{Working.works_did, messages.take_one.Goals.In-Did, messages.take_one.Given.Over}
use Rattle.vz_threads.proofs.messages.take_one.Goals as goal

did : (g : Over) (c : In-Did g) → WorksOn anything c.args.end.now c.client-answer.new.end × (c.client-answer.new.end.totals.taken ≡ c.args.end.now.totals.taken + 1)
did g c =
    works_did c.args.desk.now.id c.args.count c.args.end.now c.client-answer.new.end c.client-answer.result c.in-Ok.made c.in-Did.field-0 c.requires.may c.requires.left
    c.client-answer.ensures.same c.client-answer.ensures.ok c.client-answer.ensures.waited c.in-Ok.is c.in-Did.is c.client.ensures.stands

pub returns-in-Did-clause-works : goal.returns-in-Did-clause-works
returns-in-Did-clause-works g c = (did g c).0

pub returns-in-Did-clause-one : goal.returns-in-Did-clause-one
returns-in-Did-clause-one g c = (did g c).1

pub returns-in-Did-clause-most : goal.returns-in-Did-clause-most
returns-in-Did-clause-most g c = let one = (did g c).1 in omega (arith, one)
