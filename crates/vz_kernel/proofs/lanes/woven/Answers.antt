use Rattle.vz_kernel.proofs.Vectors.{woven_is}
use Rattle.vz_kernel.proofs.lanes.woven.Goals as goal

pub returns : goal.returns
returns c = woven_is 32 c.args.evens c.args.odds c.fits-evens.0 c.fits-odds.0 c.requires.evens c.requires.odds
