use Rattle.vz_support.proofs.Clients_kept.{opens}
use Rattle.vz_support.proofs.laws.clients_open.Goals as goal

pub returns : goal.returns
returns c = opens
