use Rattle.vz_support.proofs.Asking.{known_there}
use Rattle.vz_support.proofs.laws.clients_are_known.Goals as goal

pub returns : goal.returns
returns c = known_there
