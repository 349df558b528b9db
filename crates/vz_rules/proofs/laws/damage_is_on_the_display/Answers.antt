use Rattle.vz_rules.proofs.Kept_inside.{damage_covered}
use Rattle.vz_rules.proofs.laws.damage_is_on_the_display.Goals as goal

pub returns : goal.returns
returns c = damage_covered
