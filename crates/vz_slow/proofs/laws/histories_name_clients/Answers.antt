use Rattle.vz_slow.proofs.Replaying.{legal_names}
use Rattle.vz_slow.proofs.laws.histories_name_clients.Goals as goal

pub returns : goal.returns
returns c = legal_names
