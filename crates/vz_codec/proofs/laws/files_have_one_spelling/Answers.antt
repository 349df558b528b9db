use Rattle.std.proofs.Common.{sym, ◌∙◌}
use Rattle.vz_codec.proofs.Found.{told, same_file}
use Rattle.vz_codec.proofs.laws.files_have_one_spelling.Goals as goal

pub returns : goal.returns
returns c = record { spelling = λ a b f s t. (told a f s).1 ∙ sym (told b f t).1; file = same_file }
