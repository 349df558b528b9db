use Rattle.vz_deps.specs.Lacking.{met_by}
use Rattle.vz_deps.proofs.lacks.Lacks.look.Goals as goal

pub returns-then-is_met-clause-meets : goal.returns-then-is_met-clause-meets
returns-then-is_met-clause-meets c =
    let is = c.is_met.ensures.yes c.if-is_met.true in
    c.meet.ensures.meets (met_by c.args.told.now) is.0 is.1 is.2
