use Rattle.vz_gen.proofs.Fitting.{made_three, made_fit, made_distinct}
use Rattle.vz_gen.proofs.laws.made_files_fit.Goals as goal

pub returns-clause-three : goal.returns-clause-three
returns-clause-three c = made_three

pub returns-clause-fit : goal.returns-clause-fit
returns-clause-fit c = made_fit

pub returns-clause-distinct : goal.returns-clause-distinct
returns-clause-distinct c = made_distinct
