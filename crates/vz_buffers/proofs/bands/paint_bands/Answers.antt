use Rattle.vz_buffers.proofs.Taking.{may_ready, may_band, job_painted}
use Rattle.vz_buffers.proofs.bands.paint_bands.Goals as goal

pub paint_job-requires-clause-ready : goal.paint_job-requires-clause-ready
paint_job-requires-clause-ready g c κs within = may_ready _ _ _ _ _ _ _ _ _ c.requires

pub paint_job-requires-clause-band : goal.paint_job-requires-clause-band
paint_job-requires-clause-band g c κs within = may_band _ _ _ _ _ _ _ _ _ c.requires

pub returns : goal.returns
returns g c = job_painted _ _ _ _ _ _ _ _ _ _ c.requires c.paint_job.ensures.drawn
