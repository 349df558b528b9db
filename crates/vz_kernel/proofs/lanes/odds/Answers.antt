use Rattle.std.proofs.Common.{sym, subst}
use Rattle.vz_kernel.specs.Lanes.{AreBytes}
use Rattle.vz_kernel.proofs.Vectors.{odds_is, bytes_fit, bytes_odds}
use Rattle.vz_kernel.proofs.lanes.odds.Goals as goal

pub returns : goal.returns
returns c =
    let v = c.args.bytes in
    let e = odds_is 32 v c.fits-bytes.0 c.fits-bytes.1 in
    record { value = e; bytes = subst AreBytes (sym e) (bytes_odds v (bytes_fit v c.fits-bytes.1)) }
