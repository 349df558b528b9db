use Rattle.viz_run.proofs.Demo_fits.{planned}
use Rattle.viz_run.proofs.laws.demo_files_are_a_plan.Goals as goal

pub returns : goal.returns
returns c = planned
