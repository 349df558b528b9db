use Rattle.vz_deps.proofs.Rounds.{round_leaves}
use Rattle.vz_deps.proofs.laws.rounds_leave.Goals as goal

pub returns : goal.returns
returns c = round_leaves
