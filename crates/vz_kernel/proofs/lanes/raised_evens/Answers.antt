use Rattle.vz_kernel.proofs.ByOne.{raised_evens_is}
use Rattle.vz_kernel.proofs.lanes.raised_evens.Goals as goal

pub returns : goal.returns
returns c = raised_evens_is 32 c.args.bytes c.fits-bytes.0 c.fits-bytes.1
