use Rattle.vz_desk.proofs.Flying.{flights_are_told}
use Rattle.vz_desk.proofs.laws.flights_are_the_displays.Goals as goal

pub returns : goal.returns
returns c = flights_are_told
