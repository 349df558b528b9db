use Rattle.vz_rules.proofs.Kept_planned.{plan_first, plan_step, plan_world}
use Rattle.vz_rules.proofs.kept_laws.steps_keep_the_plan.Goals as goal

pub returns : goal.returns
returns c = record { opening = plan_first; step = plan_step; history = plan_world }
