use Rattle.vz_codec.proofs.Found.{right_spelled}
use Rattle.vz_codec.proofs.laws.bytes_without_fault_spell.Goals as goal

pub returns : goal.returns
returns c = right_spelled
