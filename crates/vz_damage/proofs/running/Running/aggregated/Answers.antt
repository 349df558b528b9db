use Rattle.vz_damage.proofs.Joining.{as_seen}
use Rattle.vz_damage.proofs.running.Running.aggregated.Goals as goal

pub invariant_of-self : goal.invariant_of-self
invariant_of-self c = as_seen _ _ _ _ _ c.self.invariant c.empty-self-inside.ensures
