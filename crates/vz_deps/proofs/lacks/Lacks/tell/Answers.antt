use Rattle.std.proofs.Common.{arith}
use Rattle.vz_deps.specs.Lacking.{met_by}
use Rattle.vz_deps.proofs.Telling.{meets_none, meets_both, none_beyond, one_more_done, all_done}
use Rattle.vz_deps.proofs.lacks.Lacks.tell.Goals as goal

pub loop-k-init : goal.loop-k-init
loop-k-init c = (meets_none (met_by c.args.told.now) c.args.self.now c.requires.kept, none_beyond c.args.told.now c.args.self.now _ _ c.requires.kept c.told-size.ensures.size)

pub look-requires : goal.look-requires
look-requires c = record { kept = c.loop-k.invariant.0.kept }

pub loop-k-preserved : goal.loop-k-preserved
loop-k-preserved c = (
  meets_both (met_by c.args.told.now) _ _ _ c.loop-k.invariant.0 c.look.ensures.meets,
  one_more_done c.args.told.now _ _ _ _ c.loop-k.k c.loop-k-test.true c.loop-k.invariant.1 c.look.ensures.meets c.look.ensures.met,
)

pub returns-clause-meets : goal.returns-clause-meets
returns-clause-meets c = c.loop-k.invariant.0

pub returns-clause-rid : goal.returns-clause-rid
returns-clause-rid c = all_done c.args.told.now _ _ _ c.loop-k.invariant.0.kept c.told-size.ensures.bunch (omega (arith, c.loop-k-test.false)) c.loop-k.invariant.1
