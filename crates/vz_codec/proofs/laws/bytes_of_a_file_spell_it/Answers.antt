use Rattle.std.proofs.Common.{refl}
use Rattle.vz_codec.specs.Spelling.{file_bytes}
use Rattle.vz_codec.proofs.Found.{spells, told}
use Rattle.vz_codec.proofs.laws.bytes_of_a_file_spell_it.Goals as goal

pub returns : goal.returns
returns c = record {
  spelled = λ f fits. spells (file_bytes f) f fits refl;
  own = λ bytes f s. (told bytes f s).1;
  fitting = λ bytes f s. (told bytes f s).0;
}
