use Rattle.vz_manager.proofs.Managed.{opened_so, serves_opened}
use Rattle.vz_manager.proofs.manager.Manager.open.Goals as goal

pub invariant_of-result : goal.invariant_of-result
invariant_of-result c = serves_opened c.args.plan c.of-shown.result.value c.new.result _ c.of-shown.ensures c.new.ensures c.in-Ok.ensures.serves

pub returns-in-Ok-clause-ok : goal.returns-in-Ok-clause-ok
returns-in-Ok-clause-ok c = opened_so c.args.plan c.of-shown.result.value c.new.result c.of-shown.ensures c.new.ensures
