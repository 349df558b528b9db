use Rattle.vz_pixels.proofs.Over.{over_is_premultiplied, over_alpha, scale_is_premultiplied, scale_alpha}
use Rattle.vz_pixels.proofs.laws.results_are_premultiplied.Goals as goal

pub returns : goal.returns
returns c = record { over = over_is_premultiplied; over_alpha = over_alpha; scale = scale_is_premultiplied; scale_alpha = scale_alpha }
