use Rattle.vz_support.proofs.Clients_kept.{tells_next, tells_unknown, tells_blocks}
use Rattle.vz_support.proofs.laws.clients_tell.Goals as goal

pub returns : goal.returns
returns c = record { next = tells_next; unknown = tells_unknown; blocks = tells_blocks }
