use Rattle.vz_deps.proofs.Keeping.{same_kept}
use Rattle.vz_deps.proofs.lacks.Lacks.reserve.Goals as goal

pub returns-clause-kept : goal.returns-clause-kept
returns-clause-kept c = same_kept _ _ c.grow-done.ensures.same c.requires.kept
