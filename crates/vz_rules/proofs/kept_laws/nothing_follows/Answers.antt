use Rattle.vz_rules.proofs.Kept_quiet.{nothing_follows}
use Rattle.vz_rules.proofs.kept_laws.nothing_follows.Goals as goal

pub returns : goal.returns
returns c = λ a h. nothing_follows a.reply a.world h
