use Rattle.vz_words.proofs.One.{same_command}
use Rattle.vz_words.proofs.laws.words_are_of_one_command.Goals as goal

pub returns : goal.returns
returns c = λ words a b is again. same_command words a b is again
