use Rattle.std.proofs.Common.{◌∙◌}
use Rattle.vz_manager.proofs.Follows.{tells_one}
use Rattle.vz_manager.proofs.outcome.finish.Goals as goal

pub take_effects-requires : goal.take_effects-requires
take_effects-requires c = c.follow.ensures.place ∙ c.requires.room.effects

pub returns-clause-effects : goal.returns-clause-effects
returns-clause-effects c w r h = tells_one _ _ _ c.take_effects.ensures (c.follow.ensures.effects w r h)
