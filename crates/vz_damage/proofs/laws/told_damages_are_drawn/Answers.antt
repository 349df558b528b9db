use Rattle.vz_damage.proofs.Between.{drawn_is_told}
use Rattle.vz_damage.proofs.laws.told_damages_are_drawn.Goals as goal

pub returns : goal.returns
returns c = drawn_is_told
