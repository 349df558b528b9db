use Rattle.vz_manager.proofs.Opened.{settled}
use Rattle.vz_manager.proofs.opening.no_surfaces.Goals as goal

pub returns-clause-stands : goal.returns-clause-stands
returns-clause-stands c p is count = settled p _ is (c.in_ok-live.ensures.live p count) (c.new-waiting.ensures p)
