use Rattle.vz_rules.proofs.Kept_first.{keeps_first, keeps_world}
use Rattle.vz_rules.proofs.Kept_between.{keeps_step}
use Rattle.vz_rules.proofs.kept_laws.steps_keep.Goals as goal

pub returns : goal.returns
returns c = record { opening = keeps_first; step = keeps_step; history = keeps_world }
