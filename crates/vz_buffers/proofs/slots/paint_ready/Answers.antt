use Rattle.vz_buffers.proofs.Taking.{fits_there, drawn_there, still_ready}
use Rattle.vz_buffers.proofs.slots.paint_ready.Goals as goal

pub paint_band-requires-clause-fits : goal.paint_band-requires-clause-fits
paint_band-requires-clause-fits g c = fits_there _ _ _ c.requires.placed c.requires.ready.draws c.requires.ready.fits

pub returns-clause-ready : goal.returns-clause-ready
returns-clause-ready g c = still_ready _ _ _ _ _ c.requires.ready c.paint_band.ensures.able c.paint_band.ensures.strip

pub returns-clause-drawn : goal.returns-clause-drawn
returns-clause-drawn g c = drawn_there _ _ _ _ _ _ _ c.requires.placed c.requires.ready.draws c.paint_band.ensures.painted
