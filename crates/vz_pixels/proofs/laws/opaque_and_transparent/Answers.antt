use Rattle.vz_pixels.proofs.Over.{opaque_hides, transparent_stays, over_nothing}
use Rattle.vz_pixels.proofs.laws.opaque_and_transparent.Goals as goal

pub returns : goal.returns
returns c = record { opaque = opaque_hides; transparent = transparent_stays; on_nothing = over_nothing }
