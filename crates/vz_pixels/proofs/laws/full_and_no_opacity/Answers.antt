use Rattle.vz_pixels.proofs.Over.{scale_full, scale_none}
use Rattle.vz_pixels.proofs.laws.full_and_no_opacity.Goals as goal

pub returns : goal.returns
returns c = record { full = scale_full; none = scale_none }
