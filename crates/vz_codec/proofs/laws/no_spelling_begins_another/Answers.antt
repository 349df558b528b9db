use Rattle.vz_codec.proofs.Found.{no_beginning}
use Rattle.vz_codec.proofs.laws.no_spelling_begins_another.Goals as goal

pub returns : goal.returns
returns c = no_beginning
