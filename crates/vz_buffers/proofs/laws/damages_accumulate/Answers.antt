use Rattle.vz_buffers.proofs.Turning.{stale_is, next_is}
use Rattle.vz_buffers.proofs.laws.damages_accumulate.Goals as goal

pub returns-clause-stale : goal.returns-clause-stale
returns-clause-stale c = stale_is

pub returns-clause-next : goal.returns-clause-next
returns-clause-next c = next_is
