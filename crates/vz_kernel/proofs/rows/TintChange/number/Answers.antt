use Rattle.std.proofs.Common.{◌-◌, ap}
use Rattle.vz_kernel.proofs.rows.TintChange.number.Goals as goal

pub returns : goal.returns
returns c = ap (λ a. 255 - a) c.a.ensures
