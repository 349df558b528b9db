use Rattle.vz_rules.proofs.Damages.{drawn_tells, unchanged_tells}
use Rattle.vz_rules.proofs.history_laws.drawings_tell_the_damage.Goals as goal

pub returns : goal.returns
returns c = record { drawn = drawn_tells; unchanged = unchanged_tells }
