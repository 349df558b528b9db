use Rattle.std.proofs.Common.{sym, subst}
use Rattle.vz_kernel.specs.Lanes.{AreBytes}
use Rattle.vz_kernel.proofs.Vectors.{doubled_is, bytes_doubled}
use Rattle.vz_kernel.proofs.lanes.alphas.Goals as goal

pub returns : goal.returns
returns c =
    let v = c.args.odds in
    let e = doubled_is 16 v v c.fits-odds.0 in
    record { value = e; bytes = subst AreBytes (sym e) (bytes_doubled v c.requires) }
