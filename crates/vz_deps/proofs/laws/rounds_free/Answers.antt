use Rattle.vz_deps.proofs.Rounds.{round_frees}
use Rattle.vz_deps.proofs.laws.rounds_free.Goals as goal

pub returns : goal.returns
returns c = round_frees
