use Rattle.vz_rules.proofs.Prefixes.{legal-front, legal-at}
use Rattle.vz_rules.proofs.history_laws.prefixes_are_legal.Goals as goal

pub returns : goal.returns
returns c = record { front = legal-front; entries = λ p h e k l. legal-at p h k e l }
