use Rattle.vz_deps.proofs.Rounds.{close_meets}
use Rattle.vz_deps.proofs.laws.closing_meets.Goals as goal

pub returns : goal.returns
returns c = close_meets
