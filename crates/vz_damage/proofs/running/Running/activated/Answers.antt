use Rattle.vz_damage.proofs.Joining.{as_active}
use Rattle.vz_damage.proofs.running.Running.activated.Goals as goal

pub invariant_of-self : goal.invariant_of-self
invariant_of-self c = as_active _ _ _ _ _ _ c.self.invariant c.bound-self-inside.ensures.value c.empty-self-inside.ensures
