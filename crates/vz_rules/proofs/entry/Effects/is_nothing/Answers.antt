use Rattle.vz_rules.proofs.Empty_effects.{nothing_is}
use Rattle.vz_rules.proofs.entry.Effects.is_nothing.Goals as goal

pub returns : goal.returns
returns c = nothing_is c.args.self.now _ _ _ _ c.is_empty.ensures c.is_empty-2.ensures c.is_empty-3.ensures c.is_empty-4.ensures
