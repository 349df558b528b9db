use Rattle.vz_rules.proofs.Depths.{limits_same, walks_same}
use Rattle.vz_rules.proofs.laws.walks_are_whole.Goals as goal

pub returns : goal.returns
returns c = record { limit = limits_same; walk = walks_same }
