use Rattle.vz_deps.proofs.Rounds.{round_meets}
use Rattle.vz_deps.proofs.laws.rounds_meet.Goals as goal

pub returns : goal.returns
returns c = round_meets
