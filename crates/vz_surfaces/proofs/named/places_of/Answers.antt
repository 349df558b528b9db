use Rattle.std.proofs.Common.{length, ap}
use Rattle.vz_surfaces.proofs.named.places_of.Goals as goal

pub returns-then-has_few : goal.returns-then-has_few
returns-then-has_few c = λ any. absurd (any (ap length c.new.ensures))

pub returns : goal.returns
returns c = λ any. c.in_ok-places.ensures
