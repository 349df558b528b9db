use Rattle.vz_kernel.proofs.Vectors.{woven_by_fours_is}
use Rattle.vz_kernel.proofs.lanes.woven_by_fours.Goals as goal

pub returns : goal.returns
returns c = woven_by_fours_is 16 c.args.evens c.args.odds c.fits-evens.0 c.fits-odds.0 c.requires.evens c.requires.odds
