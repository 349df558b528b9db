use Rattle.std.specs.Prelude.{◌≡◌, IfOk}
use Rattle.std.proofs.Common.{subst}
use Rattle.vz_rules.specs.World.{Machine}
use Rattle.vz_rules.specs.Log.{rest_in}
use Rattle.vz_manager.proofs.Managed.{serves_lent}
use Rattle.vz_manager.proofs.manager.ManagerMachine.rest.Goals as goal

pub returns : goal.returns
returns c = subst (λ (m : Machine). IfOk c.rest.result (λ r. r ≡ rest_in m.world)) c.self.view_is (c.rest.ensures _ _ (serves_lent _ _ _ _ c.deref.ensures c.self.invariant))
