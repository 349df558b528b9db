use Rattle.vz_manager.proofs.Judged.{sizes_told, others_told}
use Rattle.vz_manager.proofs.judging.has_other_size.Goals as goal

pub returns-then-eq : goal.returns-then-eq
returns-then-eq c =
    sizes_told c.args.last c.in-Some.last c.args.local.now c.in-Some.then c.args.size c.in-Some.is c.eq.result c.eq.ensures c.ne.result
    c.if-eq.true c.ne.ensures

pub returns-else-eq : goal.returns-else-eq
returns-else-eq c =
    others_told c.args.last c.in-Some.last c.args.local.now c.in-Some.then c.args.size c.in-Some.is c.eq.result c.eq.ensures c.if-eq.false
