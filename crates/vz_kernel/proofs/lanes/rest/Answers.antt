use Rattle.vz_kernel.proofs.Vectors.{rest_is, bytes_fit}
use Rattle.vz_kernel.proofs.lanes.rest.Goals as goal

pub returns : goal.returns
returns c = rest_is 64 c.args.lanes c.fits-lanes.0 (bytes_fit c.args.lanes c.fits-lanes.1)
