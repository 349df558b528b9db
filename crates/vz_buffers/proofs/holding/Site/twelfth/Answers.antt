use Rattle.vz_buffers.proofs.Taking.{set_ready}
use Rattle.vz_buffers.proofs.holding.Site.twelfth.Goals as goal

pub returns-clause-ready : goal.returns-clause-ready
returns-clause-ready g c = set_ready _ _ _ _ _ c.finish.ensures.ready c.end_band.ensures.ready
