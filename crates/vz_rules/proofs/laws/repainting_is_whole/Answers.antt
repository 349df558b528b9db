use Rattle.vz_rules.proofs.Chained.{written_is}
use Rattle.vz_rules.proofs.laws.repainting_is_whole.Goals as goal

pub returns : goal.returns
returns c = written_is
