use Rattle.vz_rules.specs.Returns.{holds}
use Rattle.vz_returns.proofs.Uses.{uses_are}
use Rattle.vz_returns.proofs.laws.uses_are_refused.Goals as goal

pub returns : goal.returns
returns c = λ w d h id counts shelf. uses_are (holds w) w.subs w d h counts shelf id
