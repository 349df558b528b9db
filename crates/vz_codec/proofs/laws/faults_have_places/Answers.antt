use Rattle.vz_codec.proofs.Found.{place_of}
use Rattle.vz_codec.proofs.laws.faults_have_places.Goals as goal

pub returns : goal.returns
returns c = record { missing = λ bytes w e. (place_of bytes w e).0; others = λ bytes w e. (place_of bytes w e).1 }
