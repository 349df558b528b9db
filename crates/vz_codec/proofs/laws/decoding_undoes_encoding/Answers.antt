use Rattle.std.proofs.Common.{refl, sym}
use Rattle.vz_codec.specs.Spelling.{file_bytes}
use Rattle.vz_codec.proofs.Found.{spells, told, decoded, finds}
use Rattle.vz_codec.proofs.laws.decoding_undoes_encoding.Goals as goal

pub returns : goal.returns
returns c = record {
  found = λ f fits result given. finds (file_bytes f) result given f (spells (file_bytes f) f fits refl);
  again = λ bytes f all e. sym (told bytes f (decoded bytes f all e)).1;
  fitting = λ bytes f all e. (told bytes f (decoded bytes f all e)).0;
}
